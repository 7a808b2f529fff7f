-- What a caller in C sees of each answer: the number that is returned is the answer's, and an output holds its value, or what it held before
-- where the answer has none. Definitions only.
use Rattle.std.specs.Prelude.{ℕ, Bool, cond, List, [], ◌∷◌, ltb, set, Float, Option, Some, None, Result, Ok, Err}
use Rattle.std.specs.Result.{result_ok}
use Rattle.limits.specs.declared.refusal.Refusal.{Refusal}
use Rattle.geometry.specs.declared.bounds.Bounds3f.{Bounds3f}
use Rattle.geometry.specs.Bounds.{bounds_floats}
use Rattle.geometry.specs.Ray.{ray_from}
use Rattle.matrix.specs.Matrix.{matrix_from}
use Rattle.interaction.specs.declared.SurfaceInteraction.{SurfaceInteraction}
use Rattle.interaction.specs.Floats.{record_floats}
use Rattle.intersect.specs.declared.Intersection.{Intersection}
use Rattle.intersect.specs.Answer.{met_record, met_count}
use Rattle.intersect.specs.Intersect.{intersect_of}
use Rattle.nearest.specs.Answer.{nearest_record, nearest_curve}
use Rattle.nearest.specs.Nearest.{Nearest, nearest_of}
use Rattle.curve_set.specs.declared.layout.Head.{Head}
use Rattle.curve_set.specs.Layout.{head_by}
use Rattle.sheet.specs.declared.Sheet.{Sheet}
use Rattle.sheet.specs.declared.SheetRefusal.{SheetRefusal}
use Rattle.sheet.specs.Answer.{reply_line, reply_counts}

-- an output afterwards: a value in C's form, or what it held
abbrev pub written : {A B : Type 0} → (A → B) → Option A → B → B
written form (Some x) old = form x
written form None old = old

abbrev pub after : {A : Type 0} → Result A Refusal → A → A
after a = written (λ x. x) (result_ok a)

-- ---- curve_object_bound, curve_world_bound

abbrev pub bound_after : Result Bounds3f Refusal → List Float → List Float
bound_after a = written bounds_floats (result_ok a)

-- ---- a hit, and the number that says where

-- 0 a hit, 1 a miss
abbrev pub hit_number : {N : Type 0} → Option (SurfaceInteraction × N) → ℕ
hit_number (Some hit) = 0
hit_number None = 1

abbrev pub hit_record : {N : Type 0} → Option (SurfaceInteraction × N) → List Float → List Float
hit_record = written (λ hit. record_floats hit.0)

abbrev pub hit_place : {N : Type 0} → Option (SurfaceInteraction × N) → N → N
hit_place = written (λ hit. hit.1)

-- ---- curve_intersect

-- a reverse above 1 counts as 1
unfoldable pub met_by : List Float → List Float → List Float → ℕ → List Float → Result Intersection Refusal
met_by piece o2w w2o reverse ray = intersect_of piece (matrix_from o2w 0) (matrix_from w2o 0) (ltb 0 reverse) (ray_from ray 0)

abbrev pub record_after : Result Intersection Refusal → List Float → List Float
record_after a = written record_floats (met_record a)

abbrev pub looked_after : Result Intersection Refusal → ℕ → ℕ
looked_after a = written (λ n. n) (met_count a)

-- ---- curve_nearest

unfoldable pub nearest_by : List Float → List Float → List Float → ℕ → List Float → Nearest
nearest_by list o2w w2o reverse ray = nearest_of list (matrix_from o2w 0) (matrix_from w2o 0) (ltb 0 reverse) (ray_from ray 0)

abbrev pub nearest_after : Nearest → List Float → List Float
nearest_after a = written record_floats (nearest_record a)

abbrev pub piece_after : Nearest → ℕ → ℕ
piece_after a = written (λ k. k) (nearest_curve a)

-- ---- curve_set_open

-- a reverse above 1 counts as 1
unfoldable pub head_given : List Float → List Float → ℕ → List Float → Head
head_given o2w w2o reverse ray = head_by (matrix_from o2w 0) (matrix_from w2o 0) (ltb 0 reverse) (ray_from ray 0)

-- ---- curve_sheet

abbrev pub beams_after : Result Sheet SheetRefusal → List Float → List Float
beams_after (Ok sheet) old = sheet.rays
beams_after (Err e) old = old

-- pieces, reverse, beams, line: the line is new with every reply
abbrev pub counts_after : Result Sheet SheetRefusal → List ℕ → List ℕ
counts_after a old = written (λ (c : ℕ × Bool × ℕ). c.0 ∷ cond c.1 1 0 ∷ c.2 ∷ reply_line a ∷ []) (reply_counts a) (set old 3 (reply_line a))
