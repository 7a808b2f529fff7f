-- Its parts are put one behind the other.
use Rattle.text.proofs.Puts.{then_puts}
use Rattle.report.specs.Printed.{number_text}
use Rattle.report.proofs.line.put_number.Goals as goal

pub returns : goal.returns
unfolding number_text
returns c = then_puts c.put_word.ensures c.put_decimal.ensures
