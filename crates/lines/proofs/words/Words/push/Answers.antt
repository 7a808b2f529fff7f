-- A word takes the place of the first zero.
use Rattle.std.proofs.Common.{rules, arith, length-set}
use Rattle.lines.proofs.Room.{zeros_behind}
use Rattle.lines.proofs.words.Words.push.Goals as goal

pub invariant_of-self : goal.invariant_of-self
invariant_of-self g c =
    (search rules, omega (arith, length-set c.self.inside.words c.self.inside.len c.args.word, c.self.invariant.1), zeros_behind _ _ _ _ c.self.invariant.2)
