use Rattle.std.proofs.Common.{◌≡◌, ◌*◌}
use lib.Ieee.{nan}
use Rattle.float.specs.Arith.{1f}
use Rattle.inverse.proofs.Rows.{first, divided}
use Rattle.inverse.proofs.scale_row.Given as goal

abbrev pub invariant-loop-k : goal.invariant-loop-k
invariant-loop-k l = l.m ≡ first nan 1f (divided l.initial.m l.fn.col) (4 * l.fn.col) l.fn.col l.initial.m l.k
