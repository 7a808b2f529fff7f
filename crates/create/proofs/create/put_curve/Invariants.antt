-- The first i floats are copied.
use Rattle.std.proofs.Common.{◌≡◌}
use lib.Seq.{paste}
use Rattle.create.proofs.create.put_curve.Given as goal

abbrev pub invariant-loop-i : goal.invariant-loop-i
invariant-loop-i l = l.list ≡ paste l.initial.list l.at l.x-items l.i
