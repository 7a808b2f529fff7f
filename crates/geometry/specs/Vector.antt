-- Vectors: core/geometry/vector.rs. Definitions only.
use Rattle.std.specs.Prelude.{ℕ, ◌+◌, cond, List, get_or, Option, None, Some, Float}
use Rattle.std.specs.Float.{nan, binary64}
use Rattle.std.specs.Float.Ieee.{mul, sub, neg, eq, lt}
use Rattle.float.specs.Arith.{◌⊕◌, ◌⊗◌, ◌⊘◌, 0f, 1f}
use Rattle.float.specs.Basic.{abs_of}
use Rattle.float.specs.Narrow.{narrow_of}
use Rattle.float.specs.Root.{sqrt_of}
use Rattle.geometry.specs.declared.vector.Vector2f.{Vector2f}
use Rattle.geometry.specs.declared.vector.Vector3f.{Vector3f}
use Rattle.geometry.specs.declared.vector.Crossed.{Crossed}

-- ---- Vector2

unfoldable pub negated2 : Vector2f → Vector2f
negated2 v = record { x = neg v.x; y = neg v.y }

unfoldable pub dot2 : Vector2f → Vector2f → Float
dot2 v w = v.x ⊗ w.x ⊕ v.y ⊗ w.y

unfoldable pub length_squared2 : Vector2f → Float
length_squared2 v = v.x ⊗ v.x ⊕ v.y ⊗ v.y

-- ---- Vector3

-- three floats from a place on
unfoldable pub vector_from : List Float → ℕ → Vector3f
vector_from l at = record { x = get_or l at nan; y = get_or l (at + 1) nan; z = get_or l (at + 2) nan }

unfoldable pub negated : Vector3f → Vector3f
negated v = record { x = neg v.x; y = neg v.y; z = neg v.z }

-- v * k
unfoldable pub scaled : Vector3f → Float → Vector3f
scaled v k = record { x = v.x ⊗ k; y = v.y ⊗ k; z = v.z ⊗ k }

-- v / k: one reciprocal, and three products. A zero of either sign is the assertion that fails.
unfoldable pub divided : Vector3f → Float → Option Vector3f
divided v k = cond (eq k 0f) None (Some (scaled v (1f ⊘ k)))

unfoldable pub dot_of : Vector3f → Vector3f → Float
dot_of v w = v.x ⊗ w.x ⊕ v.y ⊗ w.y ⊕ v.z ⊗ w.z

unfoldable pub absolute : Vector3f → Vector3f
absolute v = record { x = abs_of v.x; y = abs_of v.y; z = abs_of v.z }

unfoldable pub length_squared : Vector3f → Float
length_squared v = v.x ⊗ v.x ⊕ v.y ⊗ v.y ⊕ v.z ⊗ v.z

unfoldable pub length_of : Vector3f → Float
length_of v = sqrt_of (length_squared v)

unfoldable pub normalized : Vector3f → Option Vector3f
normalized v = divided v (length_of v)

-- a * b - c * d at f64, as f32
unfoldable pub minor_of : Float → Float → Float → Float → Float
minor_of a b c d = narrow_of (sub binary64 (mul binary64 a b) (mul binary64 c d))

abbrev pub vector_of : Float → Float → Float → Vector3f
vector_of x y z = record { x = x; y = y; z = z }

unfoldable pub cross_of : Vector3f → Vector3f → Vector3f
cross_of v w =
    record {
      x = minor_of v.y w.z v.z w.y;
      y = minor_of v.z w.x v.x w.z;
      z = minor_of v.x w.y v.y w.x;
    }

-- the cross product with the square of its length
unfoldable pub crossed_of : Vector3f → Vector3f → Crossed
crossed_of a b = record { v = cross_of a b; length_squared = length_squared (cross_of a b) }

-- ---- vec3_coordinate_system

-- v3 from v1 and v2
unfoldable pub axes_of : Vector3f → Option Vector3f → Option (Vector3f × Vector3f)
axes_of v1 (Some v2) = Some (v2, cross_of v1 v2)
axes_of v1 None = None

unfoldable pub coordinate_system : Vector3f → Option (Vector3f × Vector3f)
coordinate_system v1 =
    cond (lt (abs_of v1.y) (abs_of v1.x))
    (axes_of v1 (divided (record { x = neg v1.z; y = 0f; z = v1.x }) (sqrt_of (v1.x ⊗ v1.x ⊕ v1.z ⊗ v1.z))))
    (axes_of v1 (divided (record { x = 0f; y = v1.z; z = neg v1.y }) (sqrt_of (v1.y ⊗ v1.y ⊕ v1.z ⊗ v1.z))))
