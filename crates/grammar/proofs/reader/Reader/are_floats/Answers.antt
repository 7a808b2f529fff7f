-- Each float is told by its digits and by the byte behind them.
use Rattle.std.proofs.Common.{◌∙◌, rules, tests, arith}
use Rattle.std.proofs.lemmas.Iterator.{YieldsList-from_range}
use Rattle.std.proofs.lemmas.Iterator.Search.{all_from_yields_List}
use Rattle.grammar.specs.Grammar.{float_stands, is_floats}
use Rattle.grammar.proofs.Floats.{all_in_range}
use Rattle.grammar.proofs.reader.Reader.are_floats.Goals as goal

pub returns : goal.returns
unfolding is_floats
returns c =
    let test = float_stands c.args.self.src.now c.args.self.at c.args.n in
    all_from_yields_List test _ _ c.all.result c.all.ensures.ran (YieldsList-from_range 0 c.args.n c.args.n (cc) (omega arith)) (λ x b q k. search (rules, tests)) ∙ all_in_range test c.args.n
