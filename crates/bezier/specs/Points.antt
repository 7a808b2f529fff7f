-- Control points as floats that are lent, four a point, and back. Definitions only.
use Rattle.std.specs.Prelude.{ℕ, ◌+◌, List, get_or, Float}
use Rattle.std.specs.Float.{nan}
use Rattle.geometry.specs.Point.{point_from}
use Rattle.bezier.specs.declared.axis.Axis.{Axis}
use Rattle.bezier.specs.declared.axis.Coordinate.{Coordinate}
use Rattle.bezier.specs.declared.axis.Coordinate.TheVariants.{X, Y, Z, Fourth}
use Rattle.bezier.specs.declared.cubic.Cubic.{Cubic}
use Rattle.bezier.specs.declared.points.PaddedPoint.{PaddedPoint}

-- ---- the places

abbrev pub p0_at : ℕ
p0_at = 0

abbrev pub p1_at : ℕ
p1_at = 4

abbrev pub p2_at : ℕ
p2_at = 8

abbrev pub p3_at : ℕ
p3_at = 12

-- ----

-- how far behind a point's first float a coordinate lies
abbrev pub coordinate_number : Coordinate → ℕ
coordinate_number X = 0
coordinate_number Y = 1
coordinate_number Z = 2
coordinate_number Fourth = 3

-- a coordinate of the points: 0 is x, 1 is y, 2 is z, and 3 the one that nothing asks for
unfoldable pub axis_in : List Float → ℕ → Axis
axis_in l k = record { p0 = get_or l (p0_at + k) nan; p1 = get_or l (p1_at + k) nan; p2 = get_or l (p2_at + k) nan; p3 = get_or l (p3_at + k) nan }

-- the point whose floats start at a place
unfoldable pub padded_in : List Float → ℕ → PaddedPoint
padded_in l at = record { x = get_or l at nan; y = get_or l (at + 1) nan; z = get_or l (at + 2) nan; fourth = get_or l (at + 3) nan }

unfoldable pub cubic_in : List Float → Cubic
cubic_in l = record { p0 = point_from l p0_at; p1 = point_from l p1_at; p2 = point_from l p2_at; p3 = point_from l p3_at }
