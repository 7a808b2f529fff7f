-- A cubic Bezier curve by its control points: blossom_bezier, subdivide_bezier and eval_bezier of src/shapes/curve.rs. Definitions only.
use Rattle.std.specs.Prelude.{cond, Float}
use Rattle.std.specs.Float.Ieee.{lt}
use Rattle.float.specs.Arith.{◌⊕◌, ◌⊘◌, 0f, 1f, 2f, 3f, 4f, 8f}
use Rattle.geometry.specs.declared.point.Point3f.{Point3f}
use Rattle.geometry.specs.declared.vector.Vector3f.{Vector3f}
use Rattle.geometry.specs.Point.{plus, difference, point_scaled, distance_of, point_lerp}
use Rattle.geometry.specs.Vector.{scaled, length_squared}
use Rattle.bezier.specs.declared.cubic.Cubic.{Cubic}
use Rattle.bezier.specs.declared.cubic.Eval.{Eval}

-- blossom_bezier
unfoldable pub blossom_of : Cubic → Float → Float → Float → Point3f
blossom_of p u0 u1 u2 =
    let a0 = point_lerp u0 p.p0 p.p1 in
    let a1 = point_lerp u0 p.p1 p.p2 in
    let a2 = point_lerp u0 p.p2 p.p3 in
    let b0 = point_lerp u1 a0 a1 in
    let b1 = point_lerp u1 a1 a2 in
    point_lerp u2 b0 b1

-- approx_length of `area`: the lengths of the three chords from control point to control point, summed from 0 up
unfoldable pub chords_of : Cubic → Float
chords_of p = 0f ⊕ distance_of p.p0 p.p1 ⊕ distance_of p.p1 p.p2 ⊕ distance_of p.p2 p.p3

-- (a + b) / 2.0. A division is by one reciprocal, so here by 1.0 / 2.0, and so below.
unfoldable pub average_of2 : Point3f → Point3f → Point3f
average_of2 a b = point_scaled (plus a b) (1f ⊘ 2f)

-- (a + b * 2.0 + c) / 4.0
unfoldable pub average_of3 : Point3f → Point3f → Point3f → Point3f
average_of3 a b c = point_scaled (plus (plus a (point_scaled b 2f)) c) (1f ⊘ 4f)

-- (a + b * 3.0 + c * 3.0 + d) / 8.0
unfoldable pub average_of4 : Point3f → Point3f → Point3f → Point3f → Point3f
average_of4 a b c d = point_scaled (plus (plus (plus a (point_scaled b 3f)) (point_scaled c 3f)) d) (1f ⊘ 8f)

-- subdivide_bezier: cp_split[0..4]
unfoldable pub low_of : Cubic → Cubic
low_of cp =
    record { p0 = cp.p0; p1 = average_of2 cp.p0 cp.p1; p2 = average_of3 cp.p0 cp.p1 cp.p2; p3 = average_of4 cp.p0 cp.p1 cp.p2 cp.p3 }

-- and cp_split[3..7]
unfoldable pub high_of : Cubic → Cubic
high_of cp =
    record { p0 = average_of4 cp.p0 cp.p1 cp.p2 cp.p3; p1 = average_of3 cp.p1 cp.p2 cp.p3; p2 = average_of2 cp.p2 cp.p3; p3 = cp.p3 }

-- the derivative of eval_bezier, from cp2[0] and cp2[1]
unfoldable pub derivative_of : Cubic → Point3f → Point3f → Vector3f
derivative_of cp a b =
    let d = difference b a in
    cond (lt 0f (length_squared d)) (scaled d 3f) (difference cp.p3 cp.p0)

-- eval_bezier: the point and the derivative together
unfoldable pub eval_of : Cubic → Float → Eval
eval_of cp u =
    let a0 = point_lerp u cp.p0 cp.p1 in
    let a1 = point_lerp u cp.p1 cp.p2 in
    let a2 = point_lerp u cp.p2 cp.p3 in
    let b0 = point_lerp u a0 a1 in
    let b1 = point_lerp u a1 a2 in
    record { p = point_lerp u b0 b1; d = derivative_of cp b0 b1 }
