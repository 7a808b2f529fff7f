-- The list's length, the matrices and the ray are asked for first. Assumes nothing.
use Rattle.std.proofs.Common.{sym, ◌∙◌}
use Rattle.std.proofs.lemmas.Result.{err_from_is_err_and}
use Rattle.nearest.proofs.Curves.{arrays-nearest, wrong-length, wrong-ray, asked}
use Rattle.nearest.proofs.nearest.Goals as goal

pub returns-then-not-is_empty : goal.returns-then-not-is_empty
returns-then-not-is_empty c = wrong-length _ _ _ _ _ (rw c.as_chunks.ensures.back_len at (sym c.is_empty.ensures ∙ c.if-not-is_empty.true))

pub returns-in_err-check_ray : goal.returns-in_err-check_ray
returns-in_err-check_ray c =
    let p = err_from_is_err_and c.from_residual.result c.from_residual.ensures.1 in
    rw (p.1, p.2) (wrong-ray _ _ _ _ _ (rw c.as_chunks.ensures.back_len at (sym c.is_empty.ensures ∙ c.if-not-is_empty.false)) _ (sym c.check_ray.ensures ∙ c.in_err-check_ray.was))

pub returns : goal.returns
returns c =
    c.nearest_among.ensures
    ∙ arrays-nearest _ _ c.args.list.now _ c.as_chunks.ensures.front c.as_chunks.ensures.front_len
    ∙ rw (c.flips-flip.ensures, c.aim_ray.ensures) (asked _ _ _ _ _ (rw c.as_chunks.ensures.back_len at (sym c.is_empty.ensures ∙ c.if-not-is_empty.false)) (sym c.check_ray.ensures ∙ c.in_ok-check_ray.was))
