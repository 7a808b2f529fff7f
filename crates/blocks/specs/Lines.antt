-- The lines of a report, numbered from 0, and what contracts see of those that are left. Definitions only.
use Rattle.std.specs.Prelude.{ℕ, ◌+◌, ◌-◌, ◌*◌, ◌/◌, ◌%◌, ◌≤◌, cond, List, eqb, Float, Result, Ok, Err}
use Rattle.limits.specs.List.{up_to}
use Rattle.create.specs.Create.{most_curves}
use Rattle.sheet.specs.Sheet.{most_rays, last_number, last_line}
use Rattle.limits.specs.Refused.{number_of}
use Rattle.sheet.specs.declared.Sheet.{Sheet}
use Rattle.sheet.specs.declared.SheetRefusal.{SheetRefusal}
use Rattle.report.specs.Printed.{pieces_text, refused_sheet_text}
use Rattle.blocks.specs.Report.{met_text}

-- how large the numbers of a sheet's reply are
abbrev pub Small : Result Sheet SheetRefusal → Type 0
Small (Ok sheet) = (sheet.pieces ≤ most_curves) × (sheet.ray_count ≤ most_rays)
Small (Err e) = (number_of e.refusal ≤ last_number) × (e.line ≤ last_line)

-- ---- lines

abbrev pub line_count : Result Sheet SheetRefusal → ℕ
line_count (Ok sheet) = 1 + sheet.ray_count * sheet.pieces
line_count (Err e) = 1

module _ (list : List Float) where
  -- line 0 is that of the pieces, or of the refusal; line 1 + i * pieces + j is ray i against curve j
  abbrev pub line_text : Result Sheet SheetRefusal → ℕ → List ℕ
  line_text (Ok sheet) k = cond (eqb k 0) (pieces_text sheet.pieces) (met_text sheet.rays list sheet.reverse ((k - 1) / sheet.pieces) ((k - 1) % sheet.pieces))
  line_text (Err e) k = refused_sheet_text (number_of e.refusal) e.line

  -- the lines from one number up to another, which is not among them
  unfoldable pub lines_text : Result Sheet SheetRefusal → ℕ → ℕ → List ℕ
  lines_text sheet from to = up_to (λ i. line_text sheet (from + i)) (to - from)

-- ---- what is left

-- what was read of the sheet, and the line that is next
pub record Left : Type 0 where
  pub sheet : Result Sheet SheetRefusal
  pub next : ℕ

-- what is true of each rest
abbrev pub Sound : Left → Type 0
Sound r = Small r.sheet × (r.next ≤ line_count r.sheet)
