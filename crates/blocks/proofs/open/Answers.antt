-- All lines of the sheet that was read are left.
use Rattle.std.proofs.Common.{sym, subst, arith}
use Rattle.blocks.specs.Lines.{Small}
use Rattle.blocks.proofs.Blocks.{reply_small, all_left}
use Rattle.blocks.proofs.open.Goals as goal

pub invariant_of-result : goal.invariant_of-result
invariant_of-result c = (subst Small (sym c.read_sheet-sheet.ensures.value) (reply_small _ _), omega arith)

pub returns-clause-sound : goal.returns-clause-sound
returns-clause-sound c = (subst Small (sym c.read_sheet-sheet.ensures.value) (reply_small _ _), omega arith)

pub returns-clause-result_after : goal.returns-clause-result_after
returns-clause-result_after c = all_left _ _ _ _ c.read_sheet-sheet.ensures.value c.read_sheet-sheet.ensures.list_after
