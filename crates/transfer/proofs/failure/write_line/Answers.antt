-- The four parts of the line, one behind the other.
use Rattle.transfer.proofs.Told.{says_line}
use Rattle.transfer.proofs.failure.write_line.Goals as goal

pub returns : goal.returns
returns g c = says_line _ _ _ _ _ _ _ _ _ _ _ c.write.ensures.bytes c.write-2.ensures.bytes c.write-3.ensures.bytes c.write-4.ensures.bytes
