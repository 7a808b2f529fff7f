-- The sentence for what ended the transfer.
use Rattle.std.proofs.Common.{[], arith}
use Rattle.transfer.proofs.Told.{says_one}
use Rattle.transfer.proofs.failure.tell_sentence.Goals as goal

pub returns-in-Nothing : goal.returns-in-Nothing
returns-in-Nothing g c = rw c.in-Nothing.is ([], omega arith, says_one _ _ _ _ (rw c.as_bytes.ensures.value at c.write.ensures.bytes))

pub returns-in-Interrupted : goal.returns-in-Interrupted
returns-in-Interrupted g c = rw c.in-Interrupted.is ([], omega arith, says_one _ _ _ _ (rw c.as_bytes-in-Interrupted.ensures.value at c.write-in-Interrupted.ensures.bytes))
