-- The corners found by a pass each are those of the union by which the box of four points is stated. Assumes nothing.
use mathlib.Core.Path.{◌≡◌}
use Rattle.float.proofs.Associative.{min_assoc, max_assoc}
use Rattle.geometry.specs.declared.bounds.Bounds3f.{Bounds3f}
use Rattle.geometry.specs.declared.point.Point3f.{Point3f}
use Rattle.geometry.specs.Bounds.{union, bounds_of}
use Rattle.geometry.specs.Point.{least_of, greatest_of}
use Rattle.bezier.specs.declared.cubic.Cubic.{Cubic}
use Rattle.bezier.specs.Corners.{lower_corner, upper_corner}
use Rattle.measure.specs.Bound.{box_of}

least_assoc : (a b c : Point3f) → least_of (least_of a b) c ≡ least_of a (least_of b c)
unfolding least_of
least_assoc a b c = rw (min_assoc a.x b.x c.x, min_assoc a.y b.y c.y, min_assoc a.z b.z c.z)

greatest_assoc : (a b c : Point3f) → greatest_of (greatest_of a b) c ≡ greatest_of a (greatest_of b c)
unfolding greatest_of
greatest_assoc a b c = rw (max_assoc a.x b.x c.x, max_assoc a.y b.y c.y, max_assoc a.z b.z c.z)

pub passes_are_the_union : (p : Cubic) → Path Bounds3f (record { p_min = lower_corner p; p_max = upper_corner p }) (box_of p)
unfolding box_of union bounds_of lower_corner upper_corner
passes_are_the_union p = rw (least_assoc (least_of p.p0 p.p1) p.p2 p.p3, greatest_assoc (greatest_of p.p0 p.p1) p.p2 p.p3)
