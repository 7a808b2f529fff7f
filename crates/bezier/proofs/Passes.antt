-- Passes from the first to the last of four. Assumes nothing.
use Rattle.std.proofs.Common.{◌≡◌, refl, List, Float}
use Rattle.float.specs.Basic.{max_of, min_of}
use Rattle.float.proofs.Associative.{min_assoc, max_assoc}
use Rattle.bezier.specs.declared.axis.Axis.{Axis}
use Rattle.bezier.specs.Axis.{least_in, greatest_in}
use Rattle.geometry.specs.Point.{point_from, least_of, greatest_of}
use Rattle.bezier.specs.declared.corners.Corners.{Corners}
use Rattle.bezier.specs.declared.points.PaddedPoint.{PaddedPoint}
use Rattle.bezier.specs.Corners.{lower_corner, upper_corner, corners_at, corners_with, lower_in, upper_in}
use Rattle.bezier.specs.Extent.{extent_at, extent_union, extent_with}
use Rattle.bezier.specs.Points.{p0_at, p1_at, p2_at, p3_at, cubic_in, padded_in}

-- ---- they find what `least_in` and `greatest_in` take by pairs

pub least_by_pass : (a : Axis) → min_of (min_of (min_of a.p0 a.p1) a.p2) a.p3 ≡ least_in a
unfolding least_in
least_by_pass a = min_assoc (min_of a.p0 a.p1) a.p2 a.p3

pub greatest_by_pass : (a : Axis) → max_of (max_of (max_of a.p0 a.p1) a.p2) a.p3 ≡ greatest_in a
unfolding greatest_in
greatest_by_pass a = max_assoc (max_of a.p0 a.p1) a.p2 a.p3

-- ---- the two corners that are carried along are those of a pass each

both_carried : (l : List Float) → let c = corners_with (corners_with (corners_with (corners_at (padded_in l p0_at)) (padded_in l p1_at)) (padded_in l p2_at)) (padded_in l p3_at) in (lower_in c ≡ lower_corner (cubic_in l)) × (upper_in c ≡ upper_corner (cubic_in l))
unfolding lower_in upper_in lower_corner upper_corner corners_with corners_at extent_with extent_union extent_at cubic_in padded_in point_from least_of greatest_of
both_carried l = (refl, refl)

-- step by step
pub carried : (l : List Float) {p0 p1 p2 p3 : PaddedPoint} {c0 c1 c2 c3 : Corners}
    → p0 ≡ padded_in l p0_at → p1 ≡ padded_in l p1_at → p2 ≡ padded_in l p2_at → p3 ≡ padded_in l p3_at
    → c0 ≡ corners_at p0 → c1 ≡ corners_with c0 p1 → c2 ≡ corners_with c1 p2 → c3 ≡ corners_with c2 p3
    → (lower_in c3 ≡ lower_corner (cubic_in l)) × (upper_in c3 ≡ upper_corner (cubic_in l))
carried l a0 a1 a2 a3 b0 b1 b2 b3 = rw (b3, b2, b1, b0, a3, a2, a1, a0) (both_carried l)
