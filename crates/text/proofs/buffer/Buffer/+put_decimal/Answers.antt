-- The last digit is put behind those of the number without it.
use Rattle.std.proofs.Common.{sym}
use Rattle.text.proofs.Decimal.{decimal_one, decimal_more}
use Rattle.text.proofs.Puts.{then_puts, puts_renamed}
use Rattle.text.proofs.buffer.Buffer.+put_decimal.Goals as goal

pub returns-then-n-lt10 : goal.returns-then-n-lt10
returns-then-n-lt10 t c = puts_renamed (sym (decimal_one _ c.if-n-lt10.true)) c.put_digit.ensures

pub returns-else-n-lt10 : goal.returns-else-n-lt10
returns-else-n-lt10 t c = puts_renamed (sym (decimal_more _ c.if-n-lt10.false)) (then_puts c.put_decimal.ensures c.put_digit-else-n-lt10.ensures)
