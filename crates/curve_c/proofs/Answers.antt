-- What a returned number means: 0 is an answer and never a refusal, and of curve_intersect and curve_nearest neither is 1. Assumes nothing.
use mathlib.Core.List.{List}
use mathlib.Core.Path.{◌≡◌, refl}
use mathlib.Core.Logic.{⊎_elim}
use Prim.Native.Nat.{ℕ, ◌/◌, ◌≤◌}
use native.Mathlib.Omega.{arith}
use lib.Ieee.{Float}
use lib.ListN.{length}
use mathlib.Core.Bool.{Bool}
use Rattle.std.specs.Prelude.{Option, Some, None, Result, Ok, Err}
use Rattle.geometry.specs.declared.bounds.Bounds3f.{Bounds3f}
use Rattle.geometry.specs.declared.ray.Ray.{Ray}
use Rattle.geometry.specs.Ray.{ray_from}
use Rattle.matrix.specs.declared.Matrix4x4.{Matrix4x4}
use Rattle.matrix.specs.Matrix.{matrix_from}
use Rattle.limits.specs.declared.refusal.Refusal.{Refusal}
use Rattle.limits.specs.Refused.{number_of, first_of, told_by, status_of}
use Rattle.limits.proofs.Told.{number-positive}
use Rattle.interaction.specs.declared.SurfaceInteraction.{SurfaceInteraction}
use Rattle.create.specs.Create.{curve_count, create_refusals, created_of}
use Rattle.create.specs.declared.create.Params.{Params}
use Rattle.curve.specs.Curve.{lent_refusals}
use Rattle.curve.specs.Layout.{curve_from}
use Rattle.measure.specs.Bound.{bound_of, object_bound, world_bound}
use Rattle.measure.specs.Area.{area_of, area_in}
use Rattle.measure.specs.Price.{price_in}
use Rattle.intersect.specs.Answer.{met_number}
use Rattle.intersect.specs.Intersect.{intersect_of}
use Rattle.intersect.proofs.IntersectCorrect.{refusal_tells}
use Rattle.intersect.specs.declared.Intersection.{Intersection}
use Rattle.intersect.specs.declared.Intersection.TheVariants.{Hit, Miss}
use Rattle.nearest.specs.Answer.{nearest_number}
use Rattle.nearest.specs.Nearest.{Nearest}
use Rattle.nearest.proofs.FirstRefusal as nearest-answers
use Rattle.nearest.proofs.FirstRefusal.{nearest-numbered}
use Rattle.sheet.specs.Answer.{reply_number}
use Rattle.sheet.specs.Sheet.{sheet_of}
use Rattle.sheet.specs.declared.Sheet.{Sheet}
use Rattle.sheet.specs.declared.SheetRefusal.{SheetRefusal}
use Rattle.curve_c.specs.Calls.{met_by, nearest_by}

-- ---- an answer or a refusal

-- no refusal's number is 0
pub answered : {A : Type 0} (r : Result A Refusal) → status_of r ≡ 0 → (a : A) × (r ≡ Ok a)
answered (Ok a) e = (a, refl)
answered (Err reason) e = let p = number-positive reason in absurd (omega arith)

-- what is told by a table of refusals
pub told-answers : {A : Type 0} (status : A → ℕ) (refused : Refusal → A) → ((reason : Refusal) → status (refused reason) ≡ number_of reason)
    → (reason : Option Refusal) (x : A) → status (told_by refused reason x) ≡ 0 → told_by refused reason x ≡ x
told-answers status refused h None x e = refl
told-answers status refused h (Some reason) x e = absurd (omega (arith, h reason, number-positive reason))

pub create-answers : (l : List Float) (p : Params) (room : ℕ) → status_of (created_of l p room) ≡ 0 → created_of l p room ≡ Ok (curve_count (length l / 3) p)
unfolding created_of
create-answers l p room = told-answers status_of Err (λ reason. refl) (first_of (create_refusals l p room)) (Ok (curve_count (length l / 3) p))

pub object_bound_answers : (l : List Float) → status_of (object_bound l) ≡ 0 → object_bound l ≡ Ok (bound_of (curve_from l))
unfolding object_bound
object_bound_answers l = told-answers status_of Err (λ reason. refl) (first_of (lent_refusals l)) (Ok (bound_of (curve_from l)))

pub world_bound_answers : (l : List Float) (m : Matrix4x4) → status_of (world_bound l m) ≡ 0 → (b : Bounds3f) × (world_bound l m ≡ Ok b)
world_bound_answers l m = answered (world_bound l m)

pub area-answers : (l : List Float) → status_of (area_in l) ≡ 0 → area_in l ≡ Ok (area_of (curve_from l))
unfolding area_in
area-answers l = told-answers status_of Err (λ reason. refl) (first_of (lent_refusals l)) (Ok (area_of (curve_from l)))

pub price-answers : (l : List Float) (rate : ℕ) → status_of (price_in l rate) ≡ 0 → (n : ℕ) × (price_in l rate ≡ Ok n)
price-answers l rate = answered (price_in l rate)

-- ---- curve_intersect

-- a refusal's number is at least 9
abbrev Numbered : Result Intersection Refusal → Type 0
Numbered (Ok met) = Unit {0}
Numbered (Err reason) = 9 ≤ number_of reason

met_numbered : (l : List Float) (o2w w2o : Matrix4x4) (reverse : Bool) (r : Ray) → Numbered (intersect_of l o2w w2o reverse r)
met_numbered l o2w w2o reverse r = go (intersect_of l o2w w2o reverse r) refl
  where
    go : (met : Result Intersection Refusal) → intersect_of l o2w w2o reverse r ≡ met → Numbered met
    go (Ok met) e = tt
    go (Err reason) e = ⊎_elim (λ h. h.0) (λ h. omega (arith, h.0)) (refusal_tells l o2w w2o reverse r reason e)

-- so the numbers of a hit and of a miss are none's
hit_is : (r : Result Intersection Refusal) → Numbered r → met_number r ≡ 0 → (h : SurfaceInteraction) × (n : ℕ) × (r ≡ Ok (Hit h n))
hit_is (Ok (Hit h n)) k e = (h, n, refl)
hit_is (Ok (Miss n)) k e = absurd (omega (arith, e))
hit_is (Err reason) k e = absurd (omega (arith, k, e))

miss_is : (r : Result Intersection Refusal) → Numbered r → met_number r ≡ 1 → (n : ℕ) × (r ≡ Ok (Miss n))
miss_is (Ok (Hit h n)) k e = absurd (omega (arith, e))
miss_is (Ok (Miss n)) k e = (n, refl)
miss_is (Err reason) k e = absurd (omega (arith, k, e))

pub met_hits : (piece o2w w2o : List Float) (reverse : ℕ) (ray : List Float) → met_number (met_by piece o2w w2o reverse ray) ≡ 0
    → (h : SurfaceInteraction) × (n : ℕ) × (met_by piece o2w w2o reverse ray ≡ Ok (Hit h n))
unfolding met_by
met_hits piece o2w w2o reverse ray = hit_is _ (met_numbered piece (matrix_from o2w 0) (matrix_from w2o 0) _ (ray_from ray 0))

pub met_misses : (piece o2w w2o : List Float) (reverse : ℕ) (ray : List Float) → met_number (met_by piece o2w w2o reverse ray) ≡ 1
    → (n : ℕ) × (met_by piece o2w w2o reverse ray ≡ Ok (Miss n))
unfolding met_by
met_misses piece o2w w2o reverse ray = miss_is _ (met_numbered piece (matrix_from o2w 0) (matrix_from w2o 0) _ (ray_from ray 0))

-- ---- curve_nearest

nearest-hit-is : (r : Nearest) → nearest-answers.Numbered r → nearest_number r ≡ 0 → (h : SurfaceInteraction) × (k : ℕ) × (r ≡ Ok (Some (h, k)))
nearest-hit-is (Ok (Some hit)) n e = (hit.0, hit.1, refl)
nearest-hit-is (Ok None) n e = absurd (omega (arith, e))
nearest-hit-is (Err reason) n e = absurd (omega (arith, n, e))

nearest-miss-is : (r : Nearest) → nearest-answers.Numbered r → nearest_number r ≡ 1 → r ≡ Ok None
nearest-miss-is (Ok (Some hit)) n e = absurd (omega (arith, e))
nearest-miss-is (Ok None) n e = refl
nearest-miss-is (Err reason) n e = absurd (omega (arith, n, e))

pub nearest-hits : (list o2w w2o : List Float) (reverse : ℕ) (ray : List Float) → nearest_number (nearest_by list o2w w2o reverse ray) ≡ 0
    → (h : SurfaceInteraction) × (k : ℕ) × (nearest_by list o2w w2o reverse ray ≡ Ok (Some (h, k)))
unfolding nearest_by
nearest-hits list o2w w2o reverse ray = nearest-hit-is _ (nearest-numbered list (matrix_from o2w 0) (matrix_from w2o 0) _ (ray_from ray 0))

pub nearest-misses : (list o2w w2o : List Float) (reverse : ℕ) (ray : List Float) → nearest_number (nearest_by list o2w w2o reverse ray) ≡ 1 → nearest_by list o2w w2o reverse ray ≡ Ok None
unfolding nearest_by
nearest-misses list o2w w2o reverse ray = nearest-miss-is _ (nearest-numbered list (matrix_from o2w 0) (matrix_from w2o 0) _ (ray_from ray 0))

-- ---- curve_sheet

-- no refusal's number is 0
accepted_is : (r : Result Sheet SheetRefusal) → reply_number r ≡ 0 → (sheet : Sheet) × (r ≡ Ok sheet)
accepted_is (Ok sheet) e = (sheet, refl)
accepted_is (Err wrong) e = let p = number-positive wrong.refusal in absurd (omega arith)

pub sheet_answers : (l : List ℕ) (room : ℕ) → reply_number (sheet_of l room) ≡ 0 → (sheet : Sheet) × (sheet_of l room ≡ Ok sheet)
sheet_answers l room = accepted_is (sheet_of l room)
