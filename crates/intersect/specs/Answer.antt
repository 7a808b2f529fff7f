-- What each answer of `intersect` is: its number, and its values. Definitions only.
use Rattle.std.specs.Prelude.{ℕ, Option, Some, None, Result, Ok, Err}
use Rattle.limits.specs.declared.refusal.Refusal.{Refusal}
use Rattle.limits.specs.Refused.{number_of}
use Rattle.interaction.specs.declared.SurfaceInteraction.{SurfaceInteraction}
use Rattle.intersect.specs.declared.Intersection.{Intersection}
use Rattle.intersect.specs.declared.Intersection.TheVariants.{Hit, Miss}

-- 0 a hit, 1 a miss, or the refusal's
abbrev pub met_number : Result Intersection Refusal → ℕ
met_number (Ok (Hit h n)) = 0
met_number (Ok (Miss n)) = 1
met_number (Err reason) = number_of reason

-- a hit's record
abbrev pub met_record : Result Intersection Refusal → Option SurfaceInteraction
met_record (Ok (Hit h n)) = Some h
met_record (Ok (Miss n)) = None
met_record (Err reason) = None

-- a hit's and a miss's count
abbrev pub met_count : Result Intersection Refusal → Option ℕ
met_count (Ok (Hit h n)) = Some n
met_count (Ok (Miss n)) = Some n
met_count (Err reason) = None
