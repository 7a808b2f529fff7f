-- The square root is the nearest value to the root, and no other value is. Assumes nothing.
use Rattle.std.proofs.Common.{◌≡◌, ◌*◌, ◌/◌, ◌^◌, T, refl}
use lib.Ieee.{Float, binary32, low, round, root_below, fits, of_bits}
use lib.Ieee.Positive.{num, den, positive}
use Rattle.float.specs.Root.{isqrt, root_at, sqrt_at, sqrt_of, NearestRoot}
use Rattle.float.proofs.NearestRoot.{nearest-root, nearest-only, quotient_exact}

-- Of a value x that is finite and above zero, num x / den x, it is the nearest value to the root: it is less than half of its last digit away, which is said by whole squares.
pub sqrt_correct : (x : Float) → T (fits binary32 x) → T (positive x) → NearestRoot binary32 (num x) (den x) (sqrt_of x)
unfolding sqrt_of
sqrt_correct = nearest-root binary32

-- What is so near to the root is `sqrt_of x`.
pub root_unique : (x r : Float) → T (fits binary32 x) → T (positive x) → NearestRoot binary32 (num x) (den x) r → r ≡ sqrt_of x
root_unique x r h p n = nearest-only binary32 (num x) (den x) r (sqrt_of x) n (sqrt_correct x h p)

-- The quotient in `sqrt_of` cuts nothing off.
pub radicand_exact : (x : Float) → T (fits binary32 x) → T (positive x) → num x * 4 ^ low binary32 / den x * den x ≡ num x * 4 ^ low binary32
radicand_exact = quotient_exact binary32

-- √2
pub root_two : sqrt_of (of_bits binary32 0x4000_0000) ≡ of_bits binary32 0x3fb5_04f3
unfolding sqrt_of sqrt_at root_at isqrt root_below round of_bits
root_two = refl

-- the root of the least subnormal
pub root-least : sqrt_of (of_bits binary32 1) ≡ of_bits binary32 0x1a35_04f3
unfolding sqrt_of sqrt_at root_at isqrt root_below round of_bits
root-least = refl

-- The largest value below 1 is its own root. 1 is within half of its own last digit of that root, but not within half of the root's, which is half as large.
pub root_below_one : sqrt_of (of_bits binary32 0x3f7f_ffff) ≡ of_bits binary32 0x3f7f_ffff
unfolding sqrt_of sqrt_at root_at isqrt root_below round of_bits
root_below_one = refl
