-- One more float, and all of them.
use Rattle.std.proofs.Common.{◌≡◌, length, refl, le_refl, arith}
use Rattle.grammar.specs.Grammar.{float_at}
use Rattle.grammar.proofs.Floats.{float_put, floats_put}
use Rattle.grammar.proofs.reader.put_floats.Goals as goal

pub loop-i-preserved : goal.loop-i-preserved
unfolding float_at
loop-i-preserved c = record { put = float_put _ _ _ _ _ _ _ c.loop-i-test.true (le_refl _) c.loop-i.invariant.put cc }

pub returns : goal.returns
returns c =
    let full : c.loop-i.i ≡ length c.args.out.now = omega arith in
    floats_put _ _ _ _ _ _ refl full c.loop-i.invariant.put
