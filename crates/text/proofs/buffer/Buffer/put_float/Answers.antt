-- One more digit, and all of them.
use Rattle.std.proofs.Common.{refl, sym, ap, ◌∙◌, arith}
use Rattle.std.proofs.Math.Seq.{take_all}
use Rattle.std.proofs.Math.ListN.{length-set}
use Rattle.text.specs.Digits.{hex_text, float_text}
use Rattle.text.proofs.Hex.{hex_set, hex_all}
use Rattle.text.proofs.Puts.{puts_renamed}
use Rattle.text.proofs.buffer.Buffer.put_float.Goals as goal

pub loop-i-preserved : goal.loop-i-preserved
loop-i-preserved c =
    let i = c.loop-i.invariant in
    record {
      long = length-set _ _ _ ∙ i.long;
      above = hex_set c.to_bits-bits.result c.loop-i.i _ _ _ c.loop-i-test.true c.loop-i.auto.i refl i.long c.digit_char.ensures i.above;
    }

pub returns : goal.returns
unfolding float_text
returns c =
    let i = c.loop-i.invariant in
    puts_renamed (sym (take_all _ _ (omega (arith, i.long))) ∙ i.above ∙ hex_all _ _ c.loop-i-test.false ∙ ap hex_text c.to_bits-bits.ensures) c.put_word.ensures
