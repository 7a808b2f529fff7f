-- A row of a matrix times a point or a vector, in the order of src/core/transform.rs. Definitions only.
use Rattle.std.specs.Prelude.{Float}
use Rattle.float.specs.Arith.{◌⊕◌, ◌⊗◌}
use Rattle.float.specs.Basic.{abs_of}
use Rattle.geometry.specs.declared.point.Point3f.{Point3f}
use Rattle.geometry.specs.declared.vector.Vector3f.{Vector3f}
use Rattle.matrix.specs.declared.Row.{Row}

-- x*m[i][0] + y*m[i][1] + z*m[i][2] + m[i][3]
unfoldable pub row_point : Row → Point3f → Float
row_point r p = p.x ⊗ r.c0 ⊕ p.y ⊗ r.c1 ⊕ p.z ⊗ r.c2 ⊕ r.c3

-- x*m[i][0] + y*m[i][1] + z*m[i][2]
unfoldable pub row_vector : Row → Vector3f → Float
row_vector r v = v.x ⊗ r.c0 ⊕ v.y ⊗ r.c1 ⊕ v.z ⊗ r.c2

-- (x*m[i][0]).abs() + (y*m[i][1]).abs() + (z*m[i][2]).abs() + m[i][3].abs()
unfoldable pub row_point_abs : Row → Point3f → Float
row_point_abs r p = abs_of (p.x ⊗ r.c0) ⊕ abs_of (p.y ⊗ r.c1) ⊕ abs_of (p.z ⊗ r.c2) ⊕ abs_of r.c3

-- (x*m[i][0]).abs() + (y*m[i][1]).abs() + (z*m[i][2]).abs()
unfoldable pub row_vector_abs : Row → Vector3f → Float
row_vector_abs r v = abs_of (v.x ⊗ r.c0) ⊕ abs_of (v.y ⊗ r.c1) ⊕ abs_of (v.z ⊗ r.c2)
