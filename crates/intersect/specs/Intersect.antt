-- The reply of `intersect`, by the subcurves and not by the walk. Definitions only.
-- Which leaves are open and what each answers stands in `specs/Leaves.antt` of `walk`, which pass and which stop the walk in `specs/Rule.antt` there. It
-- follows from the curve, the view and the whole alone: the ray's time and the flag come in with the record.
use Rattle.std.specs.Prelude.{Bool, not, List, ◌∷◌, ℕ, Some, None, Result, Ok, Err, Float}
use Rattle.std.proofs.Math.Option.{Option}
use Rattle.geometry.specs.declared.ray.Ray.{Ray}
use Rattle.matrix.specs.declared.Matrix4x4.{Matrix4x4}
use Rattle.limits.specs.declared.refusal.Refusal.{Refusal}
use Rattle.limits.specs.declared.refusal.Refusal.TheVariants as refusal
use Rattle.limits.specs.Refused.{Table, first_of, told}
use Rattle.limits.specs.Ray.{ray_refusals}
use Rattle.bisection.specs.Below.{or_else, at_or}
use Rattle.bisection.specs.Nodes.{open_up_to, first_open, last_open}
use Rattle.curve.specs.declared.curve.Curve.{Curve}
use Rattle.curve.specs.Layout.{curve_from}
use Rattle.curve.specs.Curve.{is_curve}
use Rattle.frame.specs.declared.frame.View.{View}
use Rattle.frame.specs.declared.frame.Framed.{Framed}
use Rattle.frame.specs.Frame.{framed_curve}
use Rattle.overlap.specs.declared.subcurve.Subcurve.{Subcurve}
use Rattle.overlap.specs.Depth.{depth_of}
use Rattle.overlap.specs.Subcurve.{whole_of, low_half, high_half}
use Rattle.leaf.specs.declared.leaf.Crossing.{Crossing}
use Rattle.leaf.specs.declared.leaf.Frame.{Frame}
use Rattle.leaf.specs.Leaf.{Leaf, leaf_of}
use Rattle.leaf.specs.Record.{flips_of, record_of}
use Rattle.walk.specs.Leaves.{thrown, whole_open, leaf_at}
use Rattle.walk.specs.Rule.{passes, stops}
use Rattle.intersect.specs.declared.Intersection.{Intersection}
use Rattle.intersect.specs.declared.Intersection.TheVariants.{Hit, Miss}

module _ (c : Curve) (v : View) (s : Subcurve) (d : ℕ) where
  -- the first open leaf that passes with no frame or with distance equal to 0
  unfoldable pub stop_of : Option ℕ
  stop_of = first_open low_half high_half (thrown c v) (λ p. stops (leaf_of c v p)) (whole_open c v s) s d

  -- the last open leaf that passes
  unfoldable pub last_of : Option ℕ
  last_of = last_open low_half high_half (thrown c v) (λ p. passes (leaf_of c v p)) (whole_open c v s) s d

  -- how many subcurves of all levels are open and start no later than the stop
  unfoldable pub count_of : ℕ
  count_of = open_up_to low_half high_half (thrown c v) (whole_open c v s) s d stop_of

-- ---- the reply

-- the ray in the object's frame, and whether normals turn
module _ (c : Curve) (ray : Ray) (flip : Bool) where
  -- what a leaf that passes replies with n subcurves counted: its record, or why there is none
  abbrev pub hit_with : ℕ → Crossing → Result Frame Refusal → Result Intersection Refusal
  hit_with n at (Ok f) = Ok (Hit (record_of c ray flip at f) n)
  hit_with n at (Err k) = Err k

  -- and any leaf
  abbrev pub reply_of : ℕ → Leaf → Result Intersection Refusal
  reply_of n (Some m) = hit_with n m.at m.frame
  reply_of n None = Ok (Miss n)

  -- The stop decides, and where there is none the last open leaf that passes. Where there is none of either it is a miss.
  unfoldable pub replied_at : View → Subcurve → ℕ → Result Intersection Refusal
  replied_at v s d = at_or (λ i. reply_of (count_of c v s d) (leaf_at c v s d i)) (Ok (Miss (count_of c v s d))) (or_else (stop_of c v s d) (last_of c v s d))

  unfoldable pub intersect_whole : View → Subcurve → Result Intersection Refusal
  intersect_whole v s = replied_at v s (depth_of c s.cp)

-- ---- the call

unfoldable pub intersect_framed : Curve → Bool → Result Framed Refusal → Result Intersection Refusal
intersect_framed c flip (Ok f) = intersect_whole c f.ray flip f.view (whole_of c f.cubic)
intersect_framed c flip (Err reason) = Err reason

-- the curve, then the matrices and the ray
unfoldable pub intersect_refusals : List Float → Matrix4x4 → Matrix4x4 → Ray → Table
intersect_refusals l o2w w2o r = (not (is_curve l), refusal.Curve) ∷ ray_refusals o2w w2o r

unfoldable pub intersect_of : List Float → Matrix4x4 → Matrix4x4 → Bool → Ray → Result Intersection Refusal
intersect_of l o2w w2o reverse r =
    told (first_of (intersect_refusals l o2w w2o r)) (intersect_framed (curve_from l) (flips_of reverse o2w) (framed_curve (curve_from l) w2o r))
