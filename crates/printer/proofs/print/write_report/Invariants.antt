-- So much is written, and so much is left. The measure is how many lines are left.
use Rattle.std.proofs.Common.{take}
use Rattle.std.specs.Io.KnownBytes.{Appends}
use Rattle.blocks.specs.Blocks.{lines_left, rest_of}
use Rattle.printer.proofs.Printing.{Handed}
use Rattle.printer.proofs.print.write_report.Given as goal

abbrev pub invariant-loop-left : goal.invariant-loop-left
invariant-loop-left g l = record {
  handed : Handed l.list l.fn.rest l.left l.printed;
  bytes : Appends (g.W.Write.contents l.fn.out) (g.W.Write.contents l.out) (take l.printed.bytes (rest_of l.list l.fn.rest));
}

abbrev pub decreases-loop-left : goal.decreases-loop-left
decreases-loop-left g l = lines_left l.left
