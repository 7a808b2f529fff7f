use Rattle.std.proofs.Common.{◌≡◌}
use Rattle.inverse.proofs.Reduced.{rows_cleared}
use Rattle.inverse.proofs.reduce.Given as goal

abbrev pub invariant-loop-j : goal.invariant-loop-j
invariant-loop-j l = l.m ≡ rows_cleared l.initial.m l.col l.j
