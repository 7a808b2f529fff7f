-- What a walk holds fixed beside the curve, as plain floats, and back: a walk lends the view itself, and no code makes these. Definitions only.
use Rattle.std.specs.Prelude.{ℕ, List, [], ◌∷◌, ◌++◌, get_or, Float}
use Rattle.std.specs.Float.{nan}
use Rattle.geometry.specs.Vector.{vector_from}
use Rattle.matrix.specs.Matrix.{flat, matrix_from}
use Rattle.frame.specs.declared.frame.View.{View}

-- ---- the places

abbrev pub d_at : ℕ
d_at = 0

abbrev pub ray_length_at : ℕ
ray_length_at = 3

abbrev pub zmax_at : ℕ
zmax_at = 4

abbrev pub m_at : ℕ
m_at = 5

abbrev pub m_inv_at : ℕ
m_inv_at = 21

-- ----

unfoldable pub view_from : List Float → View
view_from l =
    record {
      d = vector_from l d_at;
      ray_length = get_or l ray_length_at nan;
      zmax = get_or l zmax_at nan;
      o2r = record { m = matrix_from l m_at; m_inv = matrix_from l m_inv_at };
    }

unfoldable pub view_floats : View → List Float
view_floats v = (v.d.x ∷ v.d.y ∷ v.d.z ∷ v.ray_length ∷ v.zmax ∷ []) ++ flat v.o2r.m ++ flat v.o2r.m_inv
