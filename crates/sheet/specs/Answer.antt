-- What each reply to a sheet says: its number, its line, and its values. Definitions only.
use Rattle.std.specs.Prelude.{ℕ, Bool, Option, Some, None, Result, Ok, Err}
use Rattle.limits.specs.Refused.{number_of}
use Rattle.sheet.specs.declared.Sheet.{Sheet}
use Rattle.sheet.specs.declared.SheetRefusal.{SheetRefusal}

-- 0, or the refusal's
abbrev pub reply_number : Result Sheet SheetRefusal → ℕ
reply_number (Ok sheet) = 0
reply_number (Err e) = number_of e.refusal

-- the wrong line, 0 with every reason but that one
abbrev pub reply_line : Result Sheet SheetRefusal → ℕ
reply_line (Ok sheet) = 0
reply_line (Err e) = e.line

-- the count of curves, the reverse flag and the count of rays
abbrev pub reply_counts : Result Sheet SheetRefusal → Option (ℕ × Bool × ℕ)
reply_counts (Ok sheet) = Some (sheet.pieces, sheet.reverse, sheet.ray_count)
reply_counts (Err e) = None
