-- Its parts are put one behind the other.
use Rattle.text.proofs.Puts.{then_puts}
use Rattle.report.specs.Printed.{bits_text}
use Rattle.report.proofs.line.put_bits.Goals as goal

pub returns : goal.returns
unfolding bits_text
returns c = then_puts c.put_word.ensures c.put_float.ensures
