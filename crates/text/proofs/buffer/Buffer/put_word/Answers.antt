-- What fits is copied.
use Rattle.std.proofs.Common.{refl, arith}
use Rattle.std.proofs.lemmas.Grind.{common_steps}
use Rattle.text.proofs.Puts.{put_copy}
use Rattle.text.proofs.buffer.Buffer.put_word.Goals as goal

pub returns : goal.returns
returns c = record { same_buffer = refl; put = put_copy _ _ _ _ _ _ _ c.min-from.ensures c.min-n.ensures (omega arith) (grind (arith, common_steps)) }
