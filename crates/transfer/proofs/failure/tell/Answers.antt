-- Of a failure why is told, whatever the system says.
use Rattle.transfer.proofs.Told.{length-why}
use Rattle.transfer.proofs.failure.tell.Goals as goal

pub returns-in-Failed : goal.returns-in-Failed
returns-in-Failed g c = rw c.in-Failed.is (_, length-why _ _ c.put_why-n.ensures, c.tell_failed.ensures)
