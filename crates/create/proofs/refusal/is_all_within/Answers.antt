use Rattle.std.proofs.Common.{◌∙◌, ◌&&◌, true, sym, rules, tests}
use Rattle.std.proofs.lemmas.Iterator.{YieldsList-from_slice}
use Rattle.std.proofs.lemmas.Iterator.Consumers.{fold_from_yields_List}
use Rattle.limits.specs.Within.{largest, within}
use Rattle.create.proofs.AllWithin.{all_within-fold}
use Rattle.create.proofs.refusal.is_all_within.Goals as goal

pub returns : goal.returns
returns c =
    let points = c.args.points.now in
    fold_from_yields_List _ (λ b x. b && within x largest) true c.fold.result c.fold.ensures.ran (YieldsList-from_slice points cc) (λ a x b q k. search (rules, tests)) ∙ sym (all_within-fold points)
