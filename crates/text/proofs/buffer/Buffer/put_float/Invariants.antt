-- The digits above place i are there.
use Rattle.std.proofs.Common.{◌≡◌, ◌-◌, length, take}
use Rattle.text.specs.Digits.{hex_text}
use Rattle.text.proofs.buffer.Buffer.put_float.Given as goal

abbrev pub invariant-loop-i : goal.invariant-loop-i
invariant-loop-i l = record { long : length l.digits ≡ 8; above : take (8 - l.i) l.digits ≡ take (8 - l.i) (hex_text l.bits) }
