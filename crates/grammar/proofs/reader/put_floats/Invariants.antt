-- The first i floats are put.
use Rattle.std.proofs.Common.{◌≡◌, length}
use lib.Seq.{paste}
use Rattle.grammar.specs.Grammar.{floats_at}
use Rattle.grammar.proofs.reader.put_floats.Given as goal

abbrev pub invariant-loop-i : goal.invariant-loop-i
invariant-loop-i l = record { put : l.out ≡ paste l.initial.out 0 (floats_at l.s l.at (length l.initial.out)) l.i }
