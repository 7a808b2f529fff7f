-- The two corners of the box of four points. Definitions only.
use Rattle.geometry.specs.declared.point.Point3f.{Point3f}
use Rattle.geometry.specs.Point.{least_of, greatest_of}
use Rattle.bezier.specs.declared.corners.Corners.{Corners}
use Rattle.bezier.specs.declared.cubic.Cubic.{Cubic}
use Rattle.bezier.specs.declared.points.PaddedPoint.{PaddedPoint}
use Rattle.bezier.specs.Extent.{extent_at, extent_with, Numbers}

-- ---- a pass for each

-- one pass from the first point to the last, for the lower corner
unfoldable pub lower_corner : Cubic → Point3f
lower_corner p = least_of (least_of (least_of p.p0 p.p1) p.p2) p.p3

-- and another for the upper corner
unfoldable pub upper_corner : Cubic → Point3f
upper_corner p = greatest_of (greatest_of (greatest_of p.p0 p.p1) p.p2) p.p3

-- ---- both together

-- those of one point
unfoldable pub corners_at : PaddedPoint → Corners
corners_at p = record { x = extent_at p.x; y = extent_at p.y; z = extent_at p.z; fourth = extent_at p.fourth }

-- of one point more
unfoldable pub corners_with : Corners → PaddedPoint → Corners
corners_with c p =
    record { x = extent_with c.x p.x; y = extent_with c.y p.y; z = extent_with c.z p.z; fourth = extent_with c.fourth p.fourth }

-- all are numbers
abbrev pub AllNumbers : Corners → Type 0
AllNumbers c = Numbers c.x × Numbers c.y × Numbers c.z × Numbers c.fourth

-- each of the two as a point
unfoldable pub lower_in : Corners → Point3f
lower_in c = record { x = c.x.least; y = c.y.least; z = c.z.least }

unfoldable pub upper_in : Corners → Point3f
upper_in c = record { x = c.x.greatest; y = c.y.greatest; z = c.z.greatest }
