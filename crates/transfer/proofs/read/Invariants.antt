-- A row of calls leads to the transfer, and took what it counts; so many can follow at most.
use Rattle.std.proofs.Common.{◌≡◌, length, take}
use Rattle.std.specs.Prelude.{Err}
use Rattle.std.specs.Io.KnownBytes.{Consumes, IsAtEnd}
use Rattle.transfer.specs.declared.Stop.TheVariants.{Nothing}
use Rattle.transfer.specs.Transfer.{Reached}
use Rattle.transfer.proofs.Calls.{calls_left}
use Rattle.transfer.proofs.read.Given as goal

abbrev pub invariant-loop-input : goal.invariant-loop-input
invariant-loop-input g l = record {
  reached : Reached (length l.fn.buf) l.t;
  bytes : Consumes (g.R.Read.remaining l.fn.input) (g.R.Read.remaining l.input) (take l.t.done l.buf);
  end : l.t.outcome ≡ Err Nothing → IsAtEnd (g.R.Read.remaining l.input);
}

abbrev pub decreases-loop-input : goal.decreases-loop-input
decreases-loop-input g l = calls_left (length l.fn.buf) l.t
