-- Points. Definitions only.
use Rattle.std.specs.Prelude.{ℕ, ◌+◌, Bool, cond, ◌&&◌, List, get_or, Option, None, Some, Float}
use Rattle.std.specs.Float.{nan}
use Rattle.std.specs.Float.Ieee.{eq}
use Rattle.float.specs.Arith.{◌⊕◌, ◌⊖◌, ◌⊗◌, ◌⊘◌, 0f, 1f}
use Rattle.float.specs.Basic.{min_of, max_of}
use Rattle.geometry.specs.declared.point.Point2f.{Point2f}
use Rattle.geometry.specs.declared.point.Point3f.{Point3f}
use Rattle.geometry.specs.declared.vector.Vector2f.{Vector2f}
use Rattle.geometry.specs.declared.vector.Vector3f.{Vector3f}
use Rattle.geometry.specs.Pbrt.{lerp_of}
use Rattle.geometry.specs.Vector.{length_of}

-- ---- Point2

unfoldable pub difference2 : Point2f → Point2f → Vector2f
difference2 p q = record { x = p.x ⊖ q.x; y = p.y ⊖ q.y }

-- ---- Point3

-- how many floats a point or a vector is
abbrev pub point_floats : ℕ
point_floats = 3

-- three floats from a place on
unfoldable pub point_from : List Float → ℕ → Point3f
point_from l at = record { x = get_or l at nan; y = get_or l (at + 1) nan; z = get_or l (at + 2) nan }

-- point + point
unfoldable pub plus : Point3f → Point3f → Point3f
plus p q = record { x = p.x ⊕ q.x; y = p.y ⊕ q.y; z = p.z ⊕ q.z }

-- point + vector
unfoldable pub moved : Point3f → Vector3f → Point3f
moved p v = record { x = p.x ⊕ v.x; y = p.y ⊕ v.y; z = p.z ⊕ v.z }

-- point - vector
unfoldable pub moved_back : Point3f → Vector3f → Point3f
moved_back p v = record { x = p.x ⊖ v.x; y = p.y ⊖ v.y; z = p.z ⊖ v.z }

-- point - point
unfoldable pub difference : Point3f → Point3f → Vector3f
difference p q = record { x = p.x ⊖ q.x; y = p.y ⊖ q.y; z = p.z ⊖ q.z }

unfoldable pub point_scaled : Point3f → Float → Point3f
point_scaled p k = record { x = p.x ⊗ k; y = p.y ⊗ k; z = p.z ⊗ k }

-- p / k: one reciprocal, and three products
unfoldable pub point_divided : Point3f → Float → Option Point3f
point_divided p k = cond (eq k 0f) None (Some (point_scaled p (1f ⊘ k)))

unfoldable pub distance_of : Point3f → Point3f → Float
distance_of p q = length_of (difference p q)

unfoldable pub least_of : Point3f → Point3f → Point3f
least_of p q = record { x = min_of p.x q.x; y = min_of p.y q.y; z = min_of p.z q.z }

unfoldable pub greatest_of : Point3f → Point3f → Point3f
greatest_of p q = record { x = max_of p.x q.x; y = max_of p.y q.y; z = max_of p.z q.z }

-- p == q, in each coordinate: -0 equals 0, and a NaN equals nothing
unfoldable pub points_equal : Point3f → Point3f → Bool
points_equal p q = eq p.x q.x && eq p.y q.y && eq p.z q.z

-- lerp(t, p, q): p * (1 - t) + q * t
unfoldable pub point_lerp : Float → Point3f → Point3f → Point3f
point_lerp t p q = record { x = lerp_of t p.x q.x; y = lerp_of t p.y q.y; z = lerp_of t p.z q.z }
