use Rattle.std.proofs.Common.{◌≡◌, ◌*◌}
use lib.Ieee.{nan}
use Rattle.float.specs.Arith.{0f}
use Rattle.inverse.proofs.Rows.{first, lessened}
use Rattle.inverse.proofs.clear.Given as goal

abbrev pub invariant-loop-k : goal.invariant-loop-k
invariant-loop-k l = l.m ≡ first nan 0f (lessened l.initial.m l.fn.col l.fn.j) (4 * l.fn.j) l.fn.col l.initial.m l.k
