-- The control points of a curve coordinate by coordinate, and back. Definitions only.
use Rattle.std.specs.Prelude.{ℕ, zero, suc, Float}
use Rattle.geometry.specs.declared.point.Point3f.{Point3f}
use Rattle.bezier.specs.declared.axis.Axis.{Axis}
use Rattle.bezier.specs.declared.cubic.Cubic.{Cubic}

-- a coordinate of a point: 0 is x, 1 is y, and any other z
unfoldable pub component : ℕ → Point3f → Float
component zero p = p.x
component (suc zero) p = p.y
component (suc (suc k)) p = p.z

-- that of the four control points
unfoldable pub axis_of : Cubic → ℕ → Axis
axis_of p k = record { p0 = component k p.p0; p1 = component k p.p1; p2 = component k p.p2; p3 = component k p.p3 }

unfoldable pub cubic_of : Axis → Axis → Axis → Cubic
cubic_of x y z =
    record {
      p0 = record { x = x.p0; y = y.p0; z = z.p0 };
      p1 = record { x = x.p1; y = y.p1; z = z.p1 };
      p2 = record { x = x.p2; y = y.p2; z = z.p2 };
      p3 = record { x = x.p3; y = y.p3; z = z.p3 };
    }
