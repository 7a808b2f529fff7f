-- The layout of a curve's record: which of its floats is what, and how many there are. Definitions only.
use Rattle.std.specs.Prelude.{ℕ, ◌+◌, ◌*◌, List, [], ◌∷◌, get_or, take, drop, Float}
use Rattle.std.specs.Float.{nan}
use Rattle.geometry.specs.Point.{point_from}
use Rattle.bezier.specs.declared.axis.Axis.{Axis}
use Rattle.bezier.specs.declared.cubic.Cubic.{Cubic}
use Rattle.curve.specs.declared.curve.Curve.{Curve}

-- how many floats
abbrev pub floats : ℕ
floats = 16

-- the segment's control points, three floats each
abbrev pub p0_at : ℕ
p0_at = 0

abbrev pub p1_at : ℕ
p1_at = 3

abbrev pub p2_at : ℕ
p2_at = 6

abbrev pub p3_at : ℕ
p3_at = 9

-- the widths at the segment's ends
abbrev pub width0_at : ℕ
width0_at = 12

abbrev pub width1_at : ℕ
width1_at = 13

-- the part of the segment that is the curve
abbrev pub umin_at : ℕ
umin_at = 14

abbrev pub umax_at : ℕ
umax_at = 15

-- ---- a record out of a list of floats, and into one

-- a coordinate of the control points: 0 is x, 1 is y, 2 is z, and 3 what comes behind each point, for the place that nothing asks for
unfoldable pub axis_from : List Float → ℕ → Axis
axis_from l k = record { p0 = get_or l (p0_at + k) nan; p1 = get_or l (p1_at + k) nan; p2 = get_or l (p2_at + k) nan; p3 = get_or l (p3_at + k) nan }

unfoldable pub cubic_from : List Float → Cubic
cubic_from l = record { p0 = point_from l p0_at; p1 = point_from l p1_at; p2 = point_from l p2_at; p3 = point_from l p3_at }

unfoldable pub curve_from : List Float → Curve
curve_from l =
    record { cp = cubic_from l; width0 = get_or l width0_at nan; width1 = get_or l width1_at nan; umin = get_or l umin_at nan; umax = get_or l umax_at nan }

unfoldable pub curve_floats : Curve → List Float
curve_floats c =
    let p = c.cp in
    p.p0.x ∷ p.p0.y ∷ p.p0.z ∷ p.p1.x ∷ p.p1.y ∷ p.p1.z ∷ p.p2.x ∷ p.p2.y ∷ p.p2.z ∷ p.p3.x ∷ p.p3.y ∷ p.p3.z ∷
    c.width0 ∷ c.width1 ∷ c.umin ∷ c.umax ∷ []

-- the curve k of a list
unfoldable pub curve_at : List Float → ℕ → List Float
curve_at list k = take floats (drop (k * floats) list)
