-- `Matrix4x4` of pbrt-rust, src/core/transform.rs, as a struct of rows. Definitions only.
use Rattle.std.specs.Prelude.{ℕ, ◌+◌, List, [], ◌∷◌, get_or, Float}
use Rattle.std.specs.Float.{nan}
use Rattle.float.specs.Arith.{0f, 1f}
use Rattle.inverse.specs.Inverse.{inverse_flat}
use Rattle.matrix.specs.declared.Row.{Row}
use Rattle.matrix.specs.declared.Matrix4x4.{Matrix4x4}

abbrev pub row_of : Float → Float → Float → Float → Row
row_of a b c d = record { c0 = a; c1 = b; c2 = c; c3 = d }

unfoldable pub identity : Matrix4x4
identity = record { r0 = row_of 1f 0f 0f 0f; r1 = row_of 0f 1f 0f 0f; r2 = row_of 0f 0f 1f 0f; r3 = row_of 0f 0f 0f 1f }

-- how many floats a matrix is
abbrev pub matrix_floats : ℕ
matrix_floats = 16

-- they, row by row
unfoldable pub flat : Matrix4x4 → List Float
flat m =
    m.r0.c0 ∷ m.r0.c1 ∷ m.r0.c2 ∷ m.r0.c3 ∷ m.r1.c0 ∷ m.r1.c1 ∷ m.r1.c2 ∷ m.r1.c3 ∷
    m.r2.c0 ∷ m.r2.c1 ∷ m.r2.c2 ∷ m.r2.c3 ∷ m.r3.c0 ∷ m.r3.c1 ∷ m.r3.c2 ∷ m.r3.c3 ∷ []

-- four floats from a place on
unfoldable pub row_from : List Float → ℕ → Row
row_from l at = row_of (get_or l at nan) (get_or l (at + 1) nan) (get_or l (at + 2) nan) (get_or l (at + 3) nan)

-- sixteen floats from a place on, row by row
unfoldable pub matrix_from : List Float → ℕ → Matrix4x4
matrix_from l at = record { r0 = row_from l at; r1 = row_from l (at + 4); r2 = row_from l (at + 8); r3 = row_from l (at + 12) }

-- inverse
unfoldable pub inverse_of : Matrix4x4 → Matrix4x4
inverse_of m = matrix_from (inverse_flat (flat m)) 0
