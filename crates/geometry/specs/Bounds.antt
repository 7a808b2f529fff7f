-- Boxes: core/geometry/bounds.rs. Definitions only.
use Rattle.std.specs.Prelude.{List, [], ◌∷◌, Float}
use Rattle.geometry.specs.declared.bounds.Bounds3f.{Bounds3f}
use Rattle.geometry.specs.declared.point.Point3f.{Point3f}
use Rattle.geometry.specs.declared.vector.Vector3f.{Vector3f}
use Rattle.geometry.specs.Point.{moved, moved_back, least_of, greatest_of}

-- the box of a point
unfoldable pub bounds_at : Point3f → Bounds3f
bounds_at p = record { p_min = p; p_max = p }

-- from_points
unfoldable pub bounds_of : Point3f → Point3f → Bounds3f
bounds_of p q = record { p_min = least_of p q; p_max = greatest_of p q }

-- union_point
unfoldable pub with_point : Bounds3f → Point3f → Bounds3f
with_point b p = record { p_min = least_of b.p_min p; p_max = greatest_of b.p_max p }

-- union_bounds
unfoldable pub union : Bounds3f → Bounds3f → Bounds3f
union b c = record { p_min = least_of b.p_min c.p_min; p_max = greatest_of b.p_max c.p_max }

-- expand
unfoldable pub expanded : Bounds3f → Float → Bounds3f
expanded b delta =
    let v : Vector3f = record { x = delta; y = delta; z = delta } in
    record { p_min = moved_back b.p_min v; p_max = moved b.p_max v }

-- a box as plain floats: the lower corner, then the upper
unfoldable pub bounds_floats : Bounds3f → List Float
bounds_floats b =
    b.p_min.x ∷ b.p_min.y ∷ b.p_min.z ∷ b.p_max.x ∷ b.p_max.y ∷ b.p_max.z ∷ []
