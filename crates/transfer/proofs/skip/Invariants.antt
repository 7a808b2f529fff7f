-- A row of calls leads to the transfer, and took as many bytes as it counts; so many can follow at most.
use Rattle.transfer.specs.Transfer.{Reached, Skips}
use Rattle.transfer.proofs.Calls.{calls_left}
use Rattle.transfer.proofs.skip.Given as goal

abbrev pub invariant-loop-room : goal.invariant-loop-room
invariant-loop-room g l = record {
  reached : Reached l.n l.t;
  bytes : Skips (g.R.Read.remaining l.fn.input) (g.R.Read.remaining l.input) l.t.done;
}

abbrev pub decreases-loop-room : goal.decreases-loop-room
decreases-loop-room g l = calls_left l.n l.t
