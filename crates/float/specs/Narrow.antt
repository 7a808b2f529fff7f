-- The words of the contracts of `narrow`, for any format and for binary32, and of its parts. Definitions only.
use Rattle.std.specs.Prelude.{ℕ, suc, ◌+◌, ◌-◌, ◌*◌, ◌/◌, ◌%◌, ◌^◌, cond, nat_le, Float}
use Rattle.std.specs.Float.{nan, inf, fin, Format, binary32, binary64}
use Rattle.std.specs.Float.Ieee.{prec, emax, hid, ones, up, down, round}
use Rattle.std.specs.Float.Ieee.Nearest.{closest}

-- x at the format, to the nearest value and at a tie to the even one. From 2 ^ (emax + 1) less half of the last digit on it is an infinity.
unfoldable pub narrow_at : Format → Float → Float
narrow_at f nan = nan
narrow_at f (inf s) = inf s
narrow_at f (fin s m e) = round f s (m * up e) (down e)

-- x at binary32: Rust's `as f32`
unfoldable pub narrow_of : Float → Float
narrow_of x = narrow_at binary32 x

-- `shift_nearest` takes numbers of so many bits: with half of such a number, and one, added to it the sum has no more than 64.
abbrev pub spare : ℕ
spare = 62

-- how many digits binary32 has less than binary64, and by how much the field of the same exponent is less
abbrev pub fewer : ℕ
fewer = prec binary64 - prec binary32

abbrev pub rebias : ℕ
rebias = emax binary64 - emax binary32

-- What `narrow_rest` gives for a pattern of binary64, both without their signs: nothing for what is below half of the least subnormal, what is nearest for a subnormal, and otherwise an infinity's pattern.
unfoldable pub narrow_rest : ℕ → ℕ
narrow_rest n =
    let E = n / hid binary64 in
    cond (nat_le (E + prec binary32) rebias) 0 (cond (nat_le E rebias) (closest (n % hid binary64 + hid binary64) (2 ^ (suc (rebias + fewer) - E))) (ones binary32 * hid binary32))
