-- Numbers: core/pbrt.rs. Definitions only.
use Rattle.std.specs.Prelude.{ℕ, cond, pos, Float}
use Rattle.std.specs.Float.{binary32}
use Rattle.std.specs.Float.Ieee.{lt, of_int, of_bits}
use Rattle.float.specs.Arith.{◌⊕◌, ◌⊖◌, ◌⊗◌, ◌⊘◌, 1f}

-- lerp(t, x, y)
unfoldable pub lerp_of : Float → Float → Float → Float
lerp_of t x y = x ⊗ (1f ⊖ t) ⊕ y ⊗ t

-- clamp(val, low, high): a NaN is neither below nor above, and passes through
unfoldable pub clamp_of : Float → Float → Float → Float
clamp_of val low high = cond (lt val low) low (cond (lt high val) high val)

-- MACHINE_EPSILON: 2 ^ -24
abbrev pub machine_epsilon : Float
machine_epsilon = of_bits binary32 0x33800000

-- gamma(n)
unfoldable pub gamma_of : ℕ → Float
gamma_of n =
    let error = of_int binary32 (pos n) ⊗ machine_epsilon in
    error ⊘ (1f ⊖ error)
