-- Its parts are put one behind the other.
use Rattle.text.specs.Ascii.{ascii}
use Rattle.text.proofs.Puts.{then_puts}
use Rattle.report.specs.Printed.{found_text}
use Rattle.report.proofs.line.put_found.Goals as goal

pub returns : goal.returns
unfolding found_text ascii
returns c = then_puts (then_puts c.put_bits.ensures c.put_bits-2.ensures) c.put_bits-3.ensures
