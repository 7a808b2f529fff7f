-- A curve's record: its limits, and the part from umin to umax. Definitions only.
use Rattle.std.specs.Prelude.{Bool, not, ◌&&◌, List, [], ◌∷◌, ℕ, eqb, length, get_or, Float}
use Rattle.std.specs.Float.{nan, binary32}
use Rattle.std.specs.Float.Ieee.{of_bits, le, lt}
use Rattle.float.specs.Arith.{0f, 1f}
use Rattle.geometry.specs.declared.point.Point3f.{Point3f}
use Rattle.geometry.specs.Pbrt.{lerp_of}
use Rattle.limits.specs.Refused.{Table}
use Rattle.limits.specs.declared.refusal.Refusal.TheVariants as refusal
use Rattle.limits.specs.Within.{within, width_within}
use Rattle.bezier.specs.declared.axis.Axis.{Axis}
use Rattle.bezier.specs.declared.cubic.Cubic.{Cubic}
use Rattle.bezier.specs.Axis.{between}
use Rattle.bezier.specs.Cubic.{blossom_of}
use Rattle.curve.specs.declared.curve.Curve.{Curve}
use Rattle.curve.specs.Layout.{floats, umin_at, umax_at, axis_from, curve_from}

-- ---- refusal 9

unfoldable pub point_within : Point3f → Float → Bool
point_within p limit = within p.x limit && within p.y limit && within p.z limit

unfoldable pub cubic_within : Cubic → Float → Bool
cubic_within c limit = point_within c.p0 limit && point_within c.p1 limit && point_within c.p2 limit && point_within c.p3 limit

-- 2,097,152; 1/2048; 2,048
abbrev pub farthest : Float
farthest = of_bits binary32 0x4a000000

abbrev pub narrowest : Float
narrowest = of_bits binary32 0x3a000000

abbrev pub widest : Float
widest = of_bits binary32 0x45000000

-- coordinates within ±2,097,152, widths from 1/2048 to 2,048, 0 ≤ umin < umax ≤ 1; so all its floats are finite
unfoldable pub in_limits : Curve → Bool
in_limits c =
    cubic_within c.cp farthest && width_within c.width0 narrowest widest && width_within c.width1 narrowest widest && le 0f c.umin
    && lt c.umin c.umax
    && le c.umax 1f

-- as many floats as a record has, within the limits: what passes refusal 9
unfoldable pub is_curve : List Float → Bool
is_curve l = eqb (length l) floats && in_limits (curve_from l)

-- what a lent record is refused for
unfoldable pub lent_refusals : List Float → Table
lent_refusals l = (not (is_curve l), refusal.Curve) ∷ []

-- ---- the part from umin to umax

-- cpobj of object_bound, intersect and area: four blossoms
unfoldable pub control_points : Curve → Cubic
control_points c =
    let blossom = blossom_of c.cp in
    record {
      p0 = blossom c.umin c.umin c.umin;
      p1 = blossom c.umin c.umin c.umax;
      p2 = blossom c.umin c.umax c.umax;
      p3 = blossom c.umax c.umax c.umax;
    }

-- a coordinate of them, as `axis_from` has those of the segment
unfoldable pub coordinate_of : List Float → ℕ → Axis
coordinate_of l k = between (axis_from l k) (get_or l umin_at nan) (get_or l umax_at nan)

-- lerp(u, width[0], width[1])
unfoldable pub width_at : Curve → Float → Float
width_at c u = lerp_of u c.width0 c.width1
