-- The first i bytes are digits of the word.
use Rattle.std.proofs.Common.{◌≡◌, ◌+◌, ◌^◌, ◌<◌, ◌≤◌, length}
use Rattle.std.specs.Prelude.{Some}
use Rattle.text.proofs.Words.{word_in}
use Rattle.text.proofs.read.word_at.Given as goal

abbrev pub invariant-loop-i : goal.invariant-loop-i
invariant-loop-i l = record {
  value : word_in l.s l.at l.i ≡ Some l.word;
  small : l.word < 16 ^ l.i;
  within : 0 < l.i → l.at + l.i ≤ length l.s;
}
