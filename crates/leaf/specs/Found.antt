-- What a walk finds, a crossing with its frame, as plain floats, and back: a walk lends the leaf itself, and no code makes these. Definitions only.
use Rattle.std.specs.Prelude.{ℕ, List, [], ◌∷◌, get_or, Float}
use Rattle.std.specs.Float.{nan}
use Rattle.geometry.specs.Vector.{vector_from}
use Rattle.leaf.specs.declared.leaf.Crossing.{Crossing}
use Rattle.leaf.specs.declared.leaf.Frame.{Frame}

-- ---- the places

abbrev pub t_at : ℕ
t_at = 0

abbrev pub u_at : ℕ
u_at = 1

abbrev pub v_at : ℕ
v_at = 2

abbrev pub dpdu_at : ℕ
dpdu_at = 3

abbrev pub dpdv_at : ℕ
dpdv_at = 6

abbrev pub n_at : ℕ
n_at = 9

abbrev pub wo_at : ℕ
wo_at = 12

-- ----

unfoldable pub distance_from : List Float → Float
distance_from l = get_or l t_at nan

unfoldable pub crossing_from : List Float → Crossing
crossing_from l = record { t = get_or l t_at nan; u = get_or l u_at nan; v = get_or l v_at nan }

unfoldable pub frame_from : List Float → Frame
frame_from l = record { dpdu = vector_from l dpdu_at; dpdv = vector_from l dpdv_at; n = vector_from l n_at; wo = vector_from l wo_at }

-- t, u, v, dpdu, dpdv, n, wo
unfoldable pub found_floats : Crossing → Frame → List Float
found_floats at f =
    at.t ∷ at.u ∷ at.v
    ∷ f.dpdu.x ∷ f.dpdu.y ∷ f.dpdu.z
    ∷ f.dpdv.x ∷ f.dpdv.y ∷ f.dpdv.z
    ∷ f.n.x ∷ f.n.y ∷ f.n.z
    ∷ f.wo.x ∷ f.wo.y ∷ f.wo.z
    ∷ []
