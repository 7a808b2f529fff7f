use Rattle.std.proofs.Common.{◌≡◌, ℕ, ◌∙◌, refl, eqb, Option, None, Some, option_map, arith, rules}
use Rattle.std.proofs.lemmas.Iterator.{YieldsList-from_range}
use Rattle.std.proofs.lemmas.Iterator.Search.{find_from_yields_List}
use borrow.Author.Tests.{tests}
use Rattle.curve_set.specs.Layout.{count_of, number_at}
use Rattle.curve_set.proofs.Read.{position_from}
use Rattle.curve_set.proofs.view.Set.position.Goals as goal

same : (o : Option ℕ) → o ≡ option_map (λ x. x) o
same None = refl
same (Some k) = refl

pub returns : goal.returns
returns c =
    let f = c.args.self.now.floats.now in
    let w = c.args.self.now.words.now in
    let n = count_of w in
    let first = position_from f w c.args.number 0 n (omega arith) (λ k l. absurd (omega arith)) in
    same c.find.result
    ∙ find_from_yields_List (λ p. eqb (number_at w p) c.args.number) _ _ _ c.find.ensures.ran (YieldsList-from_range 0 n n (cc) (omega arith)) (λ x b q k. search (rules, tests))
    ∙ first
