-- What holds of records as lists of floats. Assumes nothing.
use Prim.Native.Nat.{ℕ, ◌+◌, ◌-◌, ◌*◌, ◌<◌, ◌≤◌}
use mathlib.Core.Path.{◌≡◌, refl, sym, ◌∙◌}
use mathlib.Core.Bool.{Bool, true, and-eq-true_iff}
use mathlib.Core.List.{List}
use native.Mathlib.Nat.{le_of_eq, add-sub_cancel_left}
use borrow.Author.Tests.{eqb-true}
use lib.Dec.{lit<}
use lib.ListN.{length, get_or, take, drop}
use lib.Seq.{get_or-take}
use lib.Ieee.{Float, nan}
use Rattle.geometry.specs.Point.{point_from, point_lerp}
use Rattle.bezier.specs.Axis.{blossom_at, between}
use Rattle.bezier.specs.Cubic.{blossom_of}
use Rattle.bezier.specs.Polygon.{cubic_of}
use Rattle.curve.specs.Layout.{floats, axis_from, cubic_from, curve_from, curve_floats, curve_at}
use Rattle.curve.specs.Curve.{is_curve, in_limits, control_points, coordinate_of}
use Rattle.curve.specs.declared.curve.Curve.{Curve}

pub length-floats : (c : Curve) → length (curve_floats c) ≡ floats
unfolding curve_floats
length-floats c = refl

-- a record is read as what was written
pub curve_back : (c : Curve) → curve_from (curve_floats c) ≡ c
unfolding curve_floats curve_from cubic_from point_from
curve_back c = refl

-- and passes refusal 9 where the curve is within the limits
pub is_curve_within : (c : Curve) → is_curve (curve_floats c) ≡ in_limits c
unfolding is_curve curve_floats curve_from cubic_from point_from
is_curve_within c = refl

-- a curve has that many floats
pub curve_length : (l : List Float) → is_curve l ≡ true → length l ≡ floats
unfolding is_curve
curve_length l e = eqb-true _ _ ((and-eq-true_iff _ _).0 e).0

-- a slice that is a curve is long enough to be read as one
pub is_long : (l : List Float) (b : Bool) → b ≡ is_curve l → b ≡ true → floats ≤ length l
is_long l b e t = le_of_eq (sym (curve_length l (sym e ∙ t)))

-- the first floats are the record at a list's start
pub curve_at_start : (s l : List Float) → l ≡ take floats s → curve_from l ≡ curve_from s
unfolding curve_from cubic_from point_from
curve_at_start s l e =
    let at : (k : ℕ) → k < floats → get_or l k nan ≡ get_or s k nan = λ k h. rw e (get_or-take floats s k nan h) in
    rw (at 0 (lit< tt), at 1 (lit< tt), at 2 (lit< tt), at 3 (lit< tt), at 4 (lit< tt), at 5 (lit< tt), at 6 (lit< tt), at 7 (lit< tt), at 8 (lit< tt), at 9 (lit< tt), at 10 (lit< tt), at 11 (lit< tt), at 12 (lit< tt), at 13 (lit< tt), at 14 (lit< tt), at 15 (lit< tt)) refl

-- the segment's control points, by their coordinates
pub segment_by_axes : (l : List Float) → cubic_of (axis_from l 0) (axis_from l 1) (axis_from l 2) ≡ cubic_from l
unfolding cubic_of axis_from cubic_from point_from
segment_by_axes l = refl

-- and the curve's: a coordinate goes through the blossoms on its own
pub curve_by_axes : (l : List Float) → cubic_of (coordinate_of l 0) (coordinate_of l 1) (coordinate_of l 2) ≡ control_points (curve_from l)
unfolding cubic_of coordinate_of control_points blossom_of point_lerp between blossom_at axis_from curve_from cubic_from point_from
curve_by_axes l = refl

-- the slice that is the curve k of a list
pub slice_curve : (list : List Float) (k : ℕ) → take (k * floats + floats - k * floats) (drop (k * floats) list) ≡ curve_at list k
unfolding curve_at
slice_curve list k = rw (add-sub_cancel_left (k * floats) floats)
