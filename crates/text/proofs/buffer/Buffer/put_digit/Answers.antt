-- Where there is room the byte is put, and where there is none nothing is.
use Rattle.std.proofs.Common.{refl}
use Rattle.text.proofs.Puts.{put_one, put_none}
use Rattle.text.proofs.buffer.Buffer.put_digit.Goals as goal

pub returns-then-self : goal.returns-then-self
returns-then-self c = rw (← c.digit_char.ensures) (record { same_buffer = refl; put = put_one _ _ _ c.if-self.true })

pub returns-else-self : goal.returns-else-self
returns-else-self c = record { same_buffer = refl; put = put_none _ _ _ c.if-self.false }
