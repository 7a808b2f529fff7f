-- look_at of src/core/transform.rs. Definitions only.
use Rattle.std.specs.Prelude.{cond, Option, None, Some}
use Rattle.std.specs.Float.Ieee.{eq}
use Rattle.float.specs.Arith.{0f, 1f}
use Rattle.geometry.specs.declared.point.Point3f.{Point3f}
use Rattle.geometry.specs.declared.vector.Vector3f.{Vector3f}
use Rattle.geometry.specs.Point.{difference}
use Rattle.geometry.specs.Vector.{length_of, normalized, cross_of}
use Rattle.matrix.specs.declared.Matrix4x4.{Matrix4x4}
use Rattle.matrix.specs.Matrix.{row_of, identity, inverse_of}
use Rattle.transform.specs.declared.camera.Transform.{Transform}

-- Transform::default()
unfoldable pub identity_transform : Transform
identity_transform = record { m = identity; m_inv = identity }

-- camera_to_world: the columns right, new_up, dir and pos
unfoldable pub camera_to_world : Point3f → Vector3f → Vector3f → Vector3f → Matrix4x4
camera_to_world pos right up dir =
    record {
      r0 = row_of right.x up.x dir.x pos.x;
      r1 = row_of right.y up.y dir.y pos.y;
      r2 = row_of right.z up.z dir.z pos.z;
      r3 = row_of 0f 0f 0f 1f;
    }

-- with `right`. A division by zero is not met: the length was tested.
abbrev pub with_right : Point3f → Vector3f → Option Vector3f → Transform
with_right pos dir (Some right) = let world = camera_to_world pos right (cross_of dir right) dir in record { m = inverse_of world; m_inv = world }
with_right pos dir None = identity_transform

-- With dir and up of length one: the identity where their cross product has length zero.
unfoldable pub framed : Point3f → Vector3f → Vector3f → Transform
framed pos dir up = cond (eq (length_of (cross_of up dir)) 0f) identity_transform (with_right pos dir (normalized (cross_of up dir)))

abbrev pub with_up : Point3f → Vector3f → Option Vector3f → Option Transform
with_up pos dir (Some up) = Some (framed pos dir up)
with_up pos dir None = None

unfoldable pub upward : Point3f → Vector3f → Vector3f → Option Transform
upward pos dir up = with_up pos dir (normalized up)

abbrev pub with_direction : Point3f → Option Vector3f → Vector3f → Option Transform
with_direction pos (Some dir) up = upward pos dir up
with_direction pos None up = None

unfoldable pub look_at : Point3f → Point3f → Vector3f → Option Transform
look_at pos look up = with_direction pos (normalized (difference look pos)) up
