use Rattle.std.proofs.Common.{◌≡◌, ap, option_map, rules}
use Rattle.std.proofs.lemmas.Result.{err_from_is_err_and}
use Rattle.curve_set.specs.Set.{nearest_along, own_answer_of}
use Rattle.curve_set.proofs.view.Set.own_answer.Goals as goal

pub returns-in_err-hit : goal.returns-in_err-hit
unfolding nearest_along
returns-in_err-hit c =
    let p = err_from_is_err_and c.from_residual.result c.from_residual.ensures.1 in
    rw (p.1, p.2, ← c.head-head.ensures) (ap own_answer_of c.in_err-hit.ensures)

pub returns : goal.returns
unfolding nearest_along
returns c =
    let record-alone : c.map.result ≡ option_map (λ x. x.0) c.in_ok-hit.hit = search rules in
    rw (record-alone, ← c.head-head.ensures) (ap own_answer_of c.in_ok-hit.ensures)
