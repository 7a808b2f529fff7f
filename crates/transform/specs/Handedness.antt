-- swaps_handedness of src/core/transform.rs. Definitions only.
use Rattle.std.specs.Prelude.{Bool}
use Rattle.std.specs.Float.Ieee.{lt}
use Rattle.float.specs.Arith.{◌⊕◌, ◌⊖◌, ◌⊗◌, 0f}
use Rattle.matrix.specs.declared.Matrix4x4.{Matrix4x4}

-- the determinant of the upper left 3x3 part is below zero
unfoldable pub swaps_handedness : Matrix4x4 → Bool
swaps_handedness m =
    let a = m.r0 in
    let b = m.r1 in
    let c = m.r2 in
    lt
    (a.c0 ⊗ (b.c1 ⊗ c.c2 ⊖ b.c2 ⊗ c.c1) ⊖ a.c1 ⊗ (b.c0 ⊗ c.c2 ⊖ b.c2 ⊗ c.c0) ⊕ a.c2 ⊗ (b.c0 ⊗ c.c1 ⊖ b.c1 ⊗ c.c0))
    0f
