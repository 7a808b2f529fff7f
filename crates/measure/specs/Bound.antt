-- Boxes: object_bound and world_bound. Definitions only.
use Rattle.std.specs.Prelude.{ℕ, not, List, [], ◌∷◌, Option, Result, Ok, ok_or, Float}
use Rattle.float.specs.Arith.{◌⊗◌, half}
use Rattle.float.specs.Basic.{max_of}
use Rattle.geometry.specs.declared.bounds.Bounds3f.{Bounds3f}
use Rattle.geometry.specs.Bounds.{bounds_of, union, expanded}
use Rattle.geometry.specs.Point.{point_from}
use Rattle.matrix.specs.declared.Matrix4x4.{Matrix4x4}
use Rattle.transform.specs.Bounds.{transform_bounds}
use Rattle.limits.specs.Refused.{Table, first_of, told}
use Rattle.limits.specs.declared.refusal.Refusal.{Refusal}
use Rattle.limits.specs.declared.refusal.Refusal.TheVariants as refusal
use Rattle.limits.specs.Within.{matrix_within}
use Rattle.bezier.specs.declared.cubic.Cubic.{Cubic}
use Rattle.curve.specs.declared.curve.Curve.{Curve}
use Rattle.curve.specs.Layout.{curve_from}
use Rattle.curve.specs.Curve.{is_curve, lent_refusals, control_points, width_at}

-- ---- the box

-- of four points
unfoldable pub box_of : Cubic → Bounds3f
box_of p = union (bounds_of p.p0 p.p1) (bounds_of p.p2 p.p3)

-- that, widened by half a width
unfoldable pub widened : Cubic → Float → Bounds3f
widened p width = expanded (box_of p) (width ⊗ half)

unfoldable pub larger_width : Curve → Float
larger_width c = max_of (width_at c c.umin) (width_at c c.umax)

-- object_bound of a curve within the limits: the box of its control points, widened by half the larger end width
unfoldable pub bound_of : Curve → Bounds3f
bound_of c = widened (control_points c) (larger_width c)

unfoldable pub object_bound : List Float → Result Bounds3f Refusal
object_bound l = told (first_of (lent_refusals l)) (Ok (bound_of (curve_from l)))

-- ---- the hall box

-- a corner's weight of zero is refusal 12
abbrev pub bound_from : Option Bounds3f → Result Bounds3f Refusal
bound_from b = ok_or b refusal.ZeroWeight

-- world_bound of a curve and a matrix within the limits
unfoldable pub world_bound_of : Curve → Matrix4x4 → Result Bounds3f Refusal
world_bound_of c m = bound_from (transform_bounds m (bound_of c))

-- 9, 10
unfoldable pub world_bound_refusals : List Float → Matrix4x4 → Table
world_bound_refusals l m = (not (is_curve l), refusal.Curve) ∷ (not (matrix_within m), refusal.Matrix) ∷ []

unfoldable pub world_bound : List Float → Matrix4x4 → Result Bounds3f Refusal
world_bound l m = told (first_of (world_bound_refusals l m)) (world_bound_of (curve_from l) m)

-- ---- a box as floats that are lent, for functions inside

-- where the lower corner starts, and the upper
abbrev pub lower_at : ℕ
lower_at = 0

abbrev pub upper_at : ℕ
upper_at = 4

unfoldable pub bounds_in : List Float → Bounds3f
bounds_in l = record { p_min = point_from l lower_at; p_max = point_from l upper_at }
