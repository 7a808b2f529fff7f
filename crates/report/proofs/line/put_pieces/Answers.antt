-- Its parts are put one behind the other.
use Rattle.text.specs.Ascii.{ascii}
use Rattle.text.proofs.Puts.{then_puts}
use Rattle.report.specs.Printed.{pieces_text}
use Rattle.report.proofs.line.put_pieces.Goals as goal

pub returns : goal.returns
unfolding pieces_text ascii
returns c = then_puts c.put_number.ensures c.put_word.ensures
