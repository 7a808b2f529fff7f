-- Why is what was put, which had room for 256 bytes.
use Rattle.transfer.proofs.Told.{length-why}
use Rattle.transfer.proofs.failure.fail.Goals as goal

pub returns : goal.returns
returns g c = (_, length-why _ _ c.put_why-n.ensures, c.write_line.ensures)
