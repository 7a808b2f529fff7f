-- All bytes that the program `beltbeam` prints for the bytes of a sheet. Definitions only.
use Rattle.std.specs.Prelude.{ℕ, ◌*◌, Bool, List, ◌++◌, Float, length, replicate, Result, Ok, Err}
use Rattle.float.specs.Arith.{0f}
use Rattle.limits.specs.List.{up_to}
use Rattle.geometry.specs.Ray.{ray_floats, ray_from}
use Rattle.matrix.specs.Matrix.{identity}
use Rattle.curve.specs.Layout.{floats, curve_at}
use Rattle.create.specs.Create.{most_curves}
use Rattle.intersect.specs.Intersect.{intersect_of}
use Rattle.intersect.specs.declared.Intersection.{Intersection}
use Rattle.sheet.specs.Sheet.{sheet_of, list_of}
use Rattle.limits.specs.Refused.{number_of}
use Rattle.limits.specs.declared.refusal.Refusal.{Refusal}
use Rattle.sheet.specs.declared.Sheet.{Sheet}
use Rattle.sheet.specs.declared.SheetRefusal.{SheetRefusal}
use Rattle.report.specs.Printed.{pieces_text, answer_text, refused_sheet_text}

module _ (rays list : List Float) where
  -- where ray i meets curve j: both matrices are the identity
  unfoldable pub met_at : Bool → ℕ → ℕ → Result Intersection Refusal
  met_at reverse i j = intersect_of (curve_at list j) identity identity reverse (ray_from rays (i * ray_floats))

  -- its line
  abbrev pub met_text : Bool → ℕ → ℕ → List ℕ
  met_text reverse i j = answer_text i j (met_at reverse i j)

-- how many curves, and behind it all curves for each ray; or one line for a refused sheet
abbrev pub reply_text : List Float → Result Sheet SheetRefusal → List ℕ
reply_text list (Ok sheet) = pieces_text sheet.pieces ++ up_to (λ i. up_to (met_text sheet.rays list sheet.reverse i) sheet.pieces) sheet.ray_count
reply_text list (Err e) = refused_sheet_text (number_of e.refusal) e.line

-- what is printed for the bytes of a sheet, where its curves go into a list
unfoldable pub report_in : List ℕ → List Float → List ℕ
report_in bytes list = reply_text (list_of bytes list) (sheet_of bytes (length list))

-- the program's list: as many floats as the most curves have, all 0
unfoldable pub report_of : List ℕ → List ℕ
report_of bytes = report_in bytes (replicate (most_curves * floats) 0f)
