-- transform_ray_error of src/core/transform.rs. Definitions only.
use Rattle.std.specs.Prelude.{cond, Option, None, Some}
use Rattle.std.specs.Float.Ieee.{lt}
use Rattle.float.specs.Arith.{◌⊘◌, 0f}
use Rattle.geometry.specs.declared.point.Point3f.{Point3f}
use Rattle.geometry.specs.declared.ray.Ray.{Ray}
use Rattle.geometry.specs.declared.vector.Vector3f.{Vector3f}
use Rattle.geometry.specs.Point.{moved}
use Rattle.geometry.specs.Vector.{scaled, dot_of, absolute, length_squared}
use Rattle.matrix.specs.declared.Matrix4x4.{Matrix4x4}
use Rattle.transform.specs.Point.{transform_point_error}
use Rattle.transform.specs.Vector.{transform_vector_error}
use Rattle.transform.specs.declared.vector.VectorWithError.{VectorWithError}
use Rattle.transform.specs.declared.ray.RayWithError.{RayWithError}

-- if length_squared > 0.0 { let dt = d.abs().dot(o_error) / length_squared; o += d * dt; }
unfoldable pub offset_origin : Point3f → Vector3f → Vector3f → Point3f
offset_origin o error d =
    cond (lt 0f (length_squared d)) (moved o (scaled d (dot_of (absolute d) error ⊘ length_squared d))) o

-- the ray of the transformed origin and direction, with t_max and time as they were
abbrev pub ray_under : Ray → Option (Point3f × Vector3f) → VectorWithError → Option RayWithError
ray_under r (Some (o, error)) d =
    Some
    (record {
      ray = record { o = offset_origin o error d.v; d = d.v; t_max = r.t_max; time = r.time };
      o_error = error;
      d_error = d.error;
    })
ray_under r None d = None

unfoldable pub transform_ray_error : Matrix4x4 → Ray → Option RayWithError
transform_ray_error m r = ray_under r (transform_point_error m r.o) (transform_vector_error m r.d)
