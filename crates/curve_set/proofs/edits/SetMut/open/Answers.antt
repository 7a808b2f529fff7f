use Rattle.std.proofs.Common.{ap, ◌∙◌}
use Rattle.std.proofs.lemmas.Result.{err_from_is_err_and}
use Rattle.curve_set.specs.Lent.{lent_of, holding}
use Rattle.curve_set.specs.Set.{open_answer}
use Rattle.curve_set.proofs.Told.{open_done, open-refused}
use Rattle.curve_set.proofs.edits.SetMut.open.Goals as goal

pub returns-in_err-check_ray-clause-value : goal.returns-in_err-check_ray-clause-value
unfolding open_answer
returns-in_err-check_ray-clause-value c =
    let p = err_from_is_err_and c.from_residual.result c.from_residual.ensures.1 in
    rw (p.1, p.2) c.in_err-check_ray.ensures

pub returns-in_err-check_ray-clause-after : goal.returns-in_err-check_ray-clause-after
returns-in_err-check_ray-clause-after c =
    ap (holding c.args.self.now) (open-refused c.args.head (lent_of c.args.self.now) c.in_err-check_ray.field-0.0 c.in_err-check_ray.ensures)

pub returns-clause-value : goal.returns-clause-value
unfolding open_answer
returns-clause-value c = c.in_ok-check_ray.ensures

pub returns-clause-after : goal.returns-clause-after
returns-clause-after c =
    c.put_head.ensures ∙ ap (holding c.args.self.now) (open_done c.args.head (lent_of c.args.self.now) c.in_ok-check_ray.ensures)
