-- Points under a matrix: src/core/transform.rs. Definitions only.
use Rattle.std.specs.Prelude.{cond, Option, None, Some, Float}
use Rattle.std.specs.Float.Ieee.{eq}
use Rattle.float.specs.Arith.{1f}
use Rattle.geometry.specs.declared.point.Point3f.{Point3f}
use Rattle.geometry.specs.declared.vector.Vector3f.{Vector3f}
use Rattle.geometry.specs.Pbrt.{gamma_of}
use Rattle.geometry.specs.Point.{point_divided}
use Rattle.geometry.specs.Vector.{scaled}
use Rattle.matrix.specs.declared.Matrix4x4.{Matrix4x4}
use Rattle.transform.specs.Row.{row_point, row_point_abs}

-- assert_ne!(wp, 0.0); if wp == 1.0 { p } else { p / wp }. A zero weight is not 1.0, so `p / wp` meets it.
unfoldable pub projected : Point3f → Float → Option Point3f
projected p w = cond (eq w 1f) (Some p) (point_divided p w)

-- transform_point
unfoldable pub transform_point : Matrix4x4 → Point3f → Option Point3f
transform_point m p =
    projected (record { x = row_point m.r0 p; y = row_point m.r1 p; z = row_point m.r2 p }) (row_point m.r3 p)

-- p_error of transform_point_error
unfoldable pub point_error : Matrix4x4 → Point3f → Vector3f
point_error m p = scaled (record { x = row_point_abs m.r0 p; y = row_point_abs m.r1 p; z = row_point_abs m.r2 p }) (gamma_of 3)

abbrev pub with_error : Option Point3f → Vector3f → Option (Point3f × Vector3f)
with_error (Some p) error = Some (p, error)
with_error None error = None

-- transform_point_error
unfoldable pub transform_point_error : Matrix4x4 → Point3f → Option (Point3f × Vector3f)
transform_point_error m p = with_error (transform_point m p) (point_error m p)
