use Rattle.std.proofs.Common.{◌≡◌}
use Rattle.pivot.proofs.Looked.{rows_looked}
use Rattle.pivot.proofs.find_pivot.Given as goal

abbrev pub invariant-loop-j : goal.invariant-loop-j
invariant-loop-j g l = l.best ≡ rows_looked l.m l.ipiv l.j
