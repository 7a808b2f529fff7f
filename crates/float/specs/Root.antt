-- The words of the contract of `sqrt`, for any format, and for binary32. Definitions only. That `sqrt_of x` is the value nearest to the root, and that no other value is, are the laws of `proofs/SqrtCorrect.antt`.
use Rattle.std.specs.Prelude.{ℕ, zero, suc, ◌+◌, ◌-◌, ◌*◌, ◌/◌, ◌^◌, ◌<◌, ◌≤◌, true, false, T, Float}
use Rattle.std.specs.Float.Ieee.Exact.{HasValue}
use Rattle.std.specs.Float.{nan, inf, fin, Format, binary32}
use Rattle.std.specs.Float.Ieee.{prec, low, hid, up, down, size, round, root_below, fits}

-- The whole-number root: the largest r with r * r ≤ n
unfoldable pub isqrt : ℕ → ℕ
isqrt n = root_below (size n) n

-- The root of n / 4 ^ low, rounded to the format. √(n / 4 ^ low) is √n / 2 ^ low: √n in units of the format's least value.
-- √n is cut to a whole number before it is rounded, which changes nothing, as the law says.
unfoldable pub root_at : Format → ℕ → Float
root_at f n = round f false (isqrt n) (2 ^ low f)

-- The root of x, a value of the format. Zeros give themselves, and what is below zero gives a NaN. m * 2 ^ e is a whole number of 1 / 4 ^ low for every value of the format, so the quotient cuts nothing off (`radicand_exact`).
unfoldable pub sqrt_at : Format → Float → Float
sqrt_at f nan = nan
sqrt_at f (inf true) = nan
sqrt_at f (inf false) = inf false
sqrt_at f (fin s zero e) = fin s zero e
sqrt_at f (fin true (suc m) e) = nan
sqrt_at f (fin false (suc m) e) = root_at f (suc m * up e * 4 ^ low f / down e)

-- the root of an f32: Rust's `sqrt`
unfoldable pub sqrt_of : Float → Float
sqrt_of x = sqrt_at binary32 x

-- What makes r the value of the format that is nearest to √(n / d). r is `digits` * 2 ^ `places` least values, of 1 / 2 ^ low each.
-- The root itself is at least 2 ^ (prec - 1) * 2 ^ places least values, so that 2 ^ places of them are its unit in the last place, and it is less than half a unit from r, so that there is no tie.
-- With all sides squared, multiplied by 4 ^ low * d, and doubled where there is a half: (2 * digits - 1) * 2 ^ places < 2 * √(n / d) * 2 ^ low < (2 * digits + 1) * 2 ^ places.
pub record NearestRoot (f : Format) (n d : ℕ) (r : Float) : Type 0 where
  pub digits : ℕ
  pub places : ℕ
  pub held : T (fits f r)
  pub value : HasValue r false (digits * 2 ^ places) (2 ^ low f)
  pub fine : digits < 2 ^ prec f
  pub full : hid f * hid f * 4 ^ places * d ≤ n * 4 ^ low f
  pub above : (2 * digits - 1) * (2 * digits - 1) * 4 ^ places * d < 4 * (n * 4 ^ low f)
  pub below : 4 * (n * 4 ^ low f) < (2 * digits + 1) * (2 * digits + 1) * 4 ^ places * d
