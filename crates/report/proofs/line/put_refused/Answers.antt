-- Its parts are put one behind the other.
use Rattle.text.specs.Ascii.{ascii}
use Rattle.text.proofs.Puts.{then_puts}
use Rattle.report.specs.Printed.{refused_text}
use Rattle.report.proofs.line.put_refused.Goals as goal

pub returns : goal.returns
unfolding refused_text ascii
returns c = then_puts (then_puts c.put_place.ensures c.put_number.ensures) c.put_word.ensures
