-- Its parts are put one behind the other.
use Rattle.text.specs.Ascii.{ascii}
use Rattle.text.proofs.Puts.{then_puts}
use Rattle.report.specs.Printed.{refused_sheet_text}
use Rattle.report.proofs.line.put_refused_sheet.Goals as goal

pub returns : goal.returns
unfolding refused_sheet_text ascii
returns c = then_puts (then_puts c.put_number.ensures c.put_number-2.ensures) c.put_word.ensures
