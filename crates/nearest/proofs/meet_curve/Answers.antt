-- The floats are no curve, or there is no aim, or the curve is met along it. Assumes nothing.
use Rattle.std.proofs.Common.{sym, ◌∙◌}
use Rattle.std.proofs.lemmas.Result.{err_from_is_err_and}
use Rattle.nearest.proofs.Curves.{wrong-curve, no-aim, met-along}
use Rattle.nearest.proofs.meet_curve.Goals as goal

pub returns-in_err-curve : goal.returns-in_err-curve
returns-in_err-curve c =
    let p = err_from_is_err_and c.from_residual.result c.from_residual.ensures.1 in
    rw (p.1, p.2) (wrong-curve c.args.floats.now _ _ _ _ (rw c.as_slice.ensures at (sym c.try_from.ensures ∙ c.in_err-curve.was)))

pub returns-in_err-a : goal.returns-in_err-a
returns-in_err-a c =
    let p = err_from_is_err_and c.from_residual-in_err-a.result c.from_residual-in_err-a.ensures.1 in
    rw (p.1, p.2) (no-aim c.args.floats.now _ _ _ _ (rw c.as_slice.ensures at (sym c.try_from.ensures ∙ c.in_ok-curve.was)) _ (sym c.ok_or.ensures.value ∙ c.in_err-a.was))

pub returns : goal.returns
returns c =
    c.meet_along.ensures ∙ met-along c.args.floats.now _ _ _ _ (rw c.as_slice.ensures at (sym c.try_from.ensures ∙ c.in_ok-curve.was)) _ (sym c.ok_or.ensures.value ∙ c.in_ok-a.was)
