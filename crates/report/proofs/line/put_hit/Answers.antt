-- Its parts are put one behind the other.
use Rattle.text.specs.Ascii.{ascii}
use Rattle.text.proofs.Puts.{then_puts}
use Rattle.report.specs.Printed.{hit_text}
use Rattle.report.proofs.line.put_hit.Goals as goal

pub returns : goal.returns
unfolding hit_text ascii
returns c = then_puts (then_puts (then_puts (then_puts c.put_place.ensures c.put_number.ensures) c.put_word.ensures) c.put_found.ensures) c.put_word-2.ensures
