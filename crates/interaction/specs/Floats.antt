-- A hit's record as plain floats. Definitions only.
use Rattle.std.specs.Prelude.{ℕ, List, [], ◌∷◌, get_or, Float}
use Rattle.std.specs.Float.{nan}
use Rattle.geometry.specs.Normal.{normal_of}
use Rattle.geometry.specs.Point.{point_from}
use Rattle.geometry.specs.Vector.{vector_from}
use Rattle.interaction.specs.declared.SurfaceInteraction.{SurfaceInteraction}

-- how many
abbrev pub record_size : ℕ
record_size = 22

-- t, u, v, p, its error, time, wo, n, dpdu, dpdv
unfoldable pub record_floats : SurfaceInteraction → List Float
record_floats h =
    h.t_hit ∷ h.u ∷ h.v
    ∷ h.p.x ∷ h.p.y ∷ h.p.z
    ∷ h.p_error.x ∷ h.p_error.y ∷ h.p_error.z
    ∷ h.time
    ∷ h.wo.x ∷ h.wo.y ∷ h.wo.z
    ∷ h.n.x ∷ h.n.y ∷ h.n.z
    ∷ h.dpdu.x ∷ h.dpdu.y ∷ h.dpdu.z
    ∷ h.dpdv.x ∷ h.dpdv.y ∷ h.dpdv.z
    ∷ []

-- back
unfoldable pub record_from : List Float → SurfaceInteraction
record_from l = record {
  t_hit = get_or l 0 nan;
  u = get_or l 1 nan;
  v = get_or l 2 nan;
  p = point_from l 3;
  p_error = vector_from l 6;
  time = get_or l 9 nan;
  wo = vector_from l 10;
  n = normal_of (vector_from l 13);
  dpdu = vector_from l 16;
  dpdv = vector_from l 19;
}
