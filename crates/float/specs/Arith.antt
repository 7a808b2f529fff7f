-- Short names for the arithmetic of binary32, and for the constants that formulas use. Definitions only.
use Rattle.std.specs.Prelude.{from_bits, Float}
use Rattle.std.specs.Float.{binary32}
use Rattle.std.specs.Float.Ieee.{add, sub, mul, div}

infixl 65 ◌⊕◌ ◌⊖◌
infixl 70 ◌⊗◌ ◌⊘◌
-- the sum, rounded once to nearest even
abbrev pub ◌⊕◌ : Float → Float → Float
a ⊕ b = add binary32 a b

-- the difference
abbrev pub ◌⊖◌ : Float → Float → Float
a ⊖ b = sub binary32 a b

-- the product
abbrev pub ◌⊗◌ : Float → Float → Float
a ⊗ b = mul binary32 a b

-- the quotient
abbrev pub ◌⊘◌ : Float → Float → Float
a ⊘ b = div binary32 a b

-- ---- the numbers 0, 1, 2, 3, 4, 6, 8, 1 / 2 and 1 / 4, by their bits

abbrev pub 0f : Float
0f = from_bits binary32 0x0000_0000

abbrev pub 1f : Float
1f = from_bits binary32 0x3f80_0000

abbrev pub 2f : Float
2f = from_bits binary32 0x4000_0000

abbrev pub 3f : Float
3f = from_bits binary32 0x4040_0000

abbrev pub 4f : Float
4f = from_bits binary32 0x4080_0000

abbrev pub 6f : Float
6f = from_bits binary32 0x40c0_0000

abbrev pub 8f : Float
8f = from_bits binary32 0x4100_0000

abbrev pub half : Float
half = from_bits binary32 0x3f00_0000

abbrev pub quarter : Float
quarter = from_bits binary32 0x3e80_0000
