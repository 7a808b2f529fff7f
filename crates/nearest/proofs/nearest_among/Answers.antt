-- The first refusal ends it, and else each curve goes behind the best so far. Assumes nothing.
use Rattle.std.proofs.Common.{sym, ◌∙◌}
use Rattle.std.proofs.lemmas.Result.{err_from_is_err_and}
use Rattle.nearest.proofs.Among.{none_yet}
use Rattle.nearest.proofs.Curves.{goes_on_lem, stops_lem}
use Rattle.nearest.proofs.nearest_among.Goals as goal

pub loop-k-init : goal.loop-k-init
loop-k-init c = sym (none_yet _)

pub returns-in_err-meet_curve : goal.returns-in_err-meet_curve
returns-in_err-meet_curve c =
    let p = err_from_is_err_and c.from_residual.result c.from_residual.ensures.1 in
    rw (p.1, p.2) (stops_lem _ _ _ c.loop-k.invariant _ _ c.loop-k-test.true (sym c.meet_curve.ensures ∙ c.in_err-meet_curve.was))

pub loop-k-preserved : goal.loop-k-preserved
loop-k-preserved c = goes_on_lem _ _ _ c.loop-k.invariant _ _ (sym c.meet_curve.ensures ∙ c.in_ok-meet_curve.was) c.nearer_of-best.ensures
