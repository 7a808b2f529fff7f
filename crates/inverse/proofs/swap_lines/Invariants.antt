use Rattle.std.proofs.Common.{◌≡◌, not, eqb}
use Rattle.inverse.proofs.Lines.{exchanged}
use Rattle.inverse.proofs.swap_lines.Given as goal

abbrev pub invariant-loop-k : goal.invariant-loop-k
invariant-loop-k g l = l.m ≡ exchanged (not (eqb g.row.ARE_ROWS 0)) l.initial.m l.i l.j l.k
