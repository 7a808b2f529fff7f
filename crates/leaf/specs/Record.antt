-- The hit's record: SurfaceInteraction::new. Definitions only.
use Rattle.std.specs.Prelude.{Bool, cond, not, Float}
use Rattle.std.specs.Float.Ieee.{neg}
use Rattle.float.specs.Arith.{◌⊗◌, 1f, 2f}
use Rattle.geometry.specs.declared.normal.Normal3f.{Normal3f}
use Rattle.geometry.specs.declared.ray.Ray.{Ray}
use Rattle.geometry.specs.declared.vector.Vector3f.{Vector3f}
use Rattle.geometry.specs.Normal.{normal_of, normal_scaled}
use Rattle.geometry.specs.Ray.{point_at}
use Rattle.matrix.specs.declared.Matrix4x4.{Matrix4x4}
use Rattle.transform.specs.Handedness.{swaps_handedness}
use Rattle.curve.specs.declared.curve.Curve.{Curve}
use Rattle.curve.specs.Curve.{width_at}
use Rattle.interaction.specs.declared.SurfaceInteraction.{SurfaceInteraction}
use Rattle.leaf.specs.declared.leaf.Crossing.{Crossing}
use Rattle.leaf.specs.declared.leaf.Frame.{Frame}

-- reverse_orientation ^ transform_swapshandedness
unfoldable pub flips_of : Bool → Matrix4x4 → Bool
flips_of reverse m = cond reverse (not (swaps_handedness m)) (swaps_handedness m)

-- -1.0
abbrev pub minus_one : Float
minus_one = neg 1f

-- n, and n *= -1.0 where it turns
unfoldable pub oriented_of : Vector3f → Bool → Normal3f
oriented_of n flip = cond flip (normal_scaled (normal_of n) minus_one) (normal_of n)

-- the record of a crossing, for the ray in the object's frame
unfoldable pub record_of : Curve → Ray → Bool → Crossing → Frame → SurfaceInteraction
record_of c ray flip at f =
    let error = 2f ⊗ width_at c at.u in
    record {
      t_hit = at.t;
      u = at.u;
      v = at.v;
      p = point_at ray at.t;
      p_error = record { x = error; y = error; z = error };
      time = ray.time;
      wo = f.wo;
      n = oriented_of f.n flip;
      dpdu = f.dpdu;
      dpdv = f.dpdv;
    }
