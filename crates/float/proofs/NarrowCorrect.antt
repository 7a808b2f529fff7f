-- The narrowing is the rounding to nearest even, and keeps what binary32 holds. Assumes nothing.
use Rattle.std.proofs.Common.{◌≡◌, ℕ, ◌<◌, Bool, false, T, refl}
use lib.Ieee.{Float, inf, binary32, binary64, round, fits, of_bits}
use lib.Ieee.Exact.{HasValue}
use Rattle.float.specs.Narrow.{narrow_at, narrow_of}
use Rattle.float.proofs.Narrowing as Narrowing

-- It is the rounding to nearest even of any fraction a / c that the value equals.
pub narrow_round : (x : Float) (s : Bool) (a c : ℕ) → 0 < c → HasValue x s a c → narrow_of x ≡ round binary32 s a c
unfolding narrow_of
narrow_round = Narrowing.narrow-value binary32

-- A value that binary32 holds is kept, so `narrow` takes back what `widen` did.
pub narrow-kept : (x : Float) → T (fits binary32 x) → narrow_of x ≡ x
unfolding narrow_of
narrow-kept = Narrowing.narrow-kept binary32

-- 0.1
pub narrow_tenth : narrow_of (of_bits binary64 0x3fb9_9999_9999_999a) ≡ of_bits binary32 0x3dcc_cccd
unfolding narrow_of narrow_at round of_bits
narrow_tenth = refl

-- -(2 ^ -150), half of the least subnormal: a tie that goes to -0.0
pub narrow-half-least : narrow_of (of_bits binary64 0xb690_0000_0000_0000) ≡ of_bits binary32 0x8000_0000
unfolding narrow_of narrow_at round of_bits
narrow-half-least = refl

-- 2 ^ 128 - 2 ^ 103, half of a last digit past the largest value: a tie that goes to the infinity
pub narrow_past_largest : narrow_of (of_bits binary64 0x47ef_ffff_f000_0000) ≡ inf false
unfolding narrow_of narrow_at round of_bits
narrow_past_largest = refl
