-- Each block follows what was handed over before it.
use Rattle.std.proofs.Common.{◌≡◌, length, sym, ◌∙◌, lit≤}
use Rattle.std.proofs.KnownBytes.{Appends-nil}
use Rattle.printer.proofs.Printing.{going, none_yet, next, more_bytes, written}
use Rattle.printer.proofs.print.write_report.Goals as goal

pub loop-left-init : goal.loop-left-init
loop-left-init g c = record { handed = none_yet _ _ c.requires.0; bytes = Appends-nil _ }

pub loop-left-preserved : goal.loop-left-preserved
loop-left-preserved g c =
    let goes = sym c.goes_on.ensures ∙ c.loop-left-test.true in
    let long : length c.loop-left.buf ≡ 65536 = c.loop-left.auto.buf ∙ c.requires.1 in
    let block = c.put_block-block.ensures.block in
    let wrote = c.write_block-printed.ensures in
    let fewer = c.put_block-block.ensures.rest_bound (going c.loop-left.printed c.loop-left.left goes).1 (rw long (lit≤ tt)) in
    record {
      handed = next _ _ _ _ _ _ _ _ c.loop-left.invariant.handed goes long c.put_block-block.auto.out block fewer wrote.follows;
      bytes = more_bytes _ _ _ _ _ _ _ _ _ _ _ c.loop-left.invariant.handed goes block wrote.follows wrote.more c.loop-left.invariant.bytes wrote.bytes;
    }

pub returns-clause-writes : goal.returns-clause-writes
returns-clause-writes g c = written _ _ _ _ c.loop-left.invariant.handed (sym c.goes_on.ensures ∙ c.loop-left-test.false)
