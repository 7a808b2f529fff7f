-- What is left of a report at its start is the report.
use Rattle.blocks.specs.Report.{report_of}
use Rattle.printer.proofs.print.print_sheet.Goals as goal

pub returns-clause-writes : goal.returns-clause-writes
unfolding report_of
returns-clause-writes g c = rw c.open-rest.ensures.result_after at c.write_report-printed.ensures.writes

pub returns-clause-bytes : goal.returns-clause-bytes
unfolding report_of
returns-clause-bytes g c = rw c.open-rest.ensures.result_after at c.write_report-printed.ensures.bytes
