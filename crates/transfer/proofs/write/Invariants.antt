-- A row of calls leads to the transfer, and handed over what it counts; so many can follow at most.
use Rattle.std.proofs.Common.{length, take}
use Rattle.std.specs.Io.KnownBytes.{Appends}
use Rattle.transfer.specs.Transfer.{Reached}
use Rattle.transfer.proofs.Calls.{calls_left}
use Rattle.transfer.proofs.write.Given as goal

abbrev pub invariant-loop-out : goal.invariant-loop-out
invariant-loop-out g l = record {
  reached : Reached (length l.buf) l.t;
  bytes : Appends (g.W.Write.contents l.fn.out) (g.W.Write.contents l.out) (take l.t.done l.buf);
}

abbrev pub decreases-loop-out : goal.decreases-loop-out
decreases-loop-out g l = calls_left (length l.buf) l.t
