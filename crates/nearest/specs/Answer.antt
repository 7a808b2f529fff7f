-- What each answer of `nearest` is in the papers' terms: its number, and its values. Definitions only.
use Rattle.std.specs.Prelude.{ℕ, Option, Some, None, Ok, Err}
use Rattle.interaction.specs.declared.SurfaceInteraction.{SurfaceInteraction}
use Rattle.limits.specs.Refused.{number_of}
use Rattle.nearest.specs.Nearest.{Nearest}

-- 0 a hit, 1 a miss, or the refusal's
abbrev pub nearest_number : Nearest → ℕ
nearest_number (Ok (Some h)) = 0
nearest_number (Ok None) = 1
nearest_number (Err reason) = number_of reason

-- a hit's record
abbrev pub nearest_record : Nearest → Option SurfaceInteraction
nearest_record (Ok (Some h)) = Some h.0
nearest_record (Ok None) = None
nearest_record (Err reason) = None

-- a hit's curve, by its number in the list
abbrev pub nearest_curve : Nearest → Option ℕ
nearest_curve (Ok (Some h)) = Some h.1
nearest_curve (Ok None) = None
nearest_curve (Err reason) = None
