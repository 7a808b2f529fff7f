-- The cubic Bezier control points of a segment: the conversions of create_curve_shape, src/shapes/curve.rs. Definitions only.
use Rattle.std.specs.Prelude.{ℕ, ◌+◌, ◌*◌, cond, List, eqb, Float}
use Rattle.float.specs.Arith.{◌⊘◌, 1f, 2f, 3f, half}
use Rattle.geometry.specs.declared.point.Point3f.{Point3f}
use Rattle.geometry.specs.Point.{point_lerp}
use Rattle.bezier.specs.declared.cubic.Cubic.{Cubic}
use Rattle.geometry.specs.Point.{point_from}

-- "Elevate to degree 3": a quadratic curve as a cubic one
unfoldable pub elevated : Point3f → Point3f → Point3f → Cubic
elevated p0 p1 p2 = record { p0 = p0; p1 = point_lerp (2f ⊘ 3f) p0 p1; p2 = point_lerp (1f ⊘ 3f) p1 p2; p3 = p2 }

-- a Bezier segment whose first coordinate is the float `at` of the list
unfoldable pub bezier_segment : List Float → ℕ → ℕ → Cubic
bezier_segment l degree at =
    let p0 = point_from l at in
    let p1 = point_from l (at + 3) in
    let p2 = point_from l (at + 6) in
    cond (eqb degree 2) (elevated p0 p1 p2) (record { p0 = p0; p1 = p1; p2 = p2; p3 = point_from l (at + 9) })

-- p11, p12 and p22 of a quadratic B-spline's p01, p12 and p23, elevated
unfoldable pub quadratic_spline : Point3f → Point3f → Point3f → Cubic
quadratic_spline p01 p12 p23 = elevated (point_lerp half p01 p12) p12 (point_lerp half p12 p23)

-- p222, p223, p233 and p333 of a cubic B-spline's p012, p123, p234 and p345
unfoldable pub cubic_spline : Point3f → Point3f → Point3f → Point3f → Cubic
cubic_spline p012 p123 p234 p345 =
    let p122 = point_lerp (2f ⊘ 3f) p012 p123 in
    let p223 = point_lerp (1f ⊘ 3f) p123 p234 in
    let p233 = point_lerp (2f ⊘ 3f) p123 p234 in
    let p334 = point_lerp (1f ⊘ 3f) p234 p345 in
    record { p0 = point_lerp half p122 p223; p1 = p223; p2 = p233; p3 = point_lerp half p233 p334 }

-- a B-spline segment whose first coordinate is the float `at` of the list
unfoldable pub spline_segment : List Float → ℕ → ℕ → Cubic
spline_segment l degree at =
    let p0 = point_from l at in
    let p1 = point_from l (at + 3) in
    let p2 = point_from l (at + 6) in
    cond (eqb degree 2) (quadratic_spline p0 p1 p2) (cubic_spline p0 p1 p2 (point_from l (at + 9)))

-- cpbase goes on by the degree in the Bezier basis, else by one: so many floats
unfoldable pub stride_of : ℕ → ℕ → ℕ
stride_of degree basis = cond (eqb basis 0) (3 * degree) 3

-- the segment whose first coordinate is the float `at`
unfoldable pub segment_at : List Float → ℕ → ℕ → ℕ → Cubic
segment_at l degree basis at = cond (eqb basis 0) (bezier_segment l degree at) (spline_segment l degree at)
