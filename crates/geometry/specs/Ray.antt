-- Rays: core/geometry/ray.rs. Definitions only.
use Rattle.std.specs.Prelude.{ℕ, ◌+◌, List, [], ◌∷◌, get_or, Float}
use Rattle.std.specs.Float.{nan}
use Rattle.geometry.specs.declared.point.Point3f.{Point3f}
use Rattle.geometry.specs.declared.ray.Ray.{Ray}
use Rattle.geometry.specs.Point.{point_from, moved}
use Rattle.geometry.specs.Vector.{vector_from, scaled}

-- how many floats a ray is
abbrev pub ray_floats : ℕ
ray_floats = 8

-- origin, direction, t_max and time from a place on
unfoldable pub ray_from : List Float → ℕ → Ray
ray_from l at = record { o = point_from l at; d = vector_from l (at + 3); t_max = get_or l (at + 6) nan; time = get_or l (at + 7) nan }

-- they, in that order
unfoldable pub flat_ray : Ray → List Float
flat_ray r = r.o.x ∷ r.o.y ∷ r.o.z ∷ r.d.x ∷ r.d.y ∷ r.d.z ∷ r.t_max ∷ r.time ∷ []

-- find_point: o + d * t
unfoldable pub point_at : Ray → Float → Point3f
point_at r t = moved r.o (scaled r.d t)
