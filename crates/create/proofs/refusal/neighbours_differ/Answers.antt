use Rattle.std.proofs.Common.{ℕ, not, refl, ap, ◌∙◌, rules, tests, arith}
use Rattle.std.proofs.lemmas.Iterator.{YieldsList-from_range}
use Rattle.std.proofs.lemmas.Iterator.Search.{all_from_yields_List}
use Rattle.limits.specs.Below.{all_below}
use Rattle.create.specs.Create.{equals_next, neighbours_differ}
use Rattle.create.proofs.AllWithin.{all_below-list}
use Rattle.create.proofs.refusal.neighbours_differ.Goals as goal

pub returns : goal.returns
unfolding neighbours_differ
returns c =
    let differs = λ (i : ℕ). not (equals_next c.args.points.now i) in
    let n = c.saturating_sub-pairs.result in
    all_from_yields_List differs _ _ c.all.result c.all.ensures.ran (YieldsList-from_range 0 n n refl (omega arith)) (λ x b q k. search (rules, tests))
    ∙ all_below-list n differs
    ∙ ap (λ k. all_below k differs) c.saturating_sub-pairs.ensures
