-- What the named bits are: the constants as numbers m * 2 ^ e, and the bits of a NaN. Assumes nothing.
use Rattle.std.proofs.Common.{◌≡◌, false, pos, negsuc, refl}
use lib.Ieee.{nan, fin, binary32, of_bits, to_bits}
use Rattle.float.specs.Arith.{0f, 1f, 2f, 3f, 4f, 6f, 8f, half, quarter}

pub constants : (0f ≡ fin false 0 (pos 0)) × (1f ≡ fin false 1 (pos 0)) × (2f ≡ fin false 1 (pos 1)) × (3f ≡ fin false 3 (pos 0)) × (4f ≡ fin false 1 (pos 2)) × (6f ≡ fin false 3 (pos 1)) × (8f ≡ fin false 1 (pos 3)) × (half ≡ fin false 1 (negsuc 0)) × (quarter ≡ fin false 1 (negsuc 1))
unfolding of_bits
constants = (refl, refl, refl, refl, refl, refl, refl, refl, refl)

pub nan-bits : to_bits binary32 nan ≡ 0x7fc0_0000
unfolding to_bits
nan-bits = refl
