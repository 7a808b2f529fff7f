use Rattle.std.proofs.Common.{◌≡◌}
use Rattle.pivot.proofs.Looked.{looked}
use Rattle.pivot.proofs.look_along.Given as goal

abbrev pub invariant-loop-k : goal.invariant-loop-k
invariant-loop-k g l = l.best ≡ looked l.fn.p l.m l.ipiv l.row l.k
