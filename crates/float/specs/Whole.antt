-- The whole number nearest to a fraction, and to a float times a whole number. Where an exact half goes is a parameter. Definitions only.
use Rattle.std.specs.Prelude.{◌≡◌, ℕ, ◌+◌, ◌*◌, ◌/◌, ◌%◌, ◌^◌, ◌≤◌, Bool, false, cond, Option, Some, None, ℤ, pos, neg_ℤ, nat_lt, unsigned_abs, Float}
use Prim.Native.Nat.{compare, Ordering}
use Rattle.std.specs.Float.{nan, inf, fin}
use Rattle.std.specs.Float.Ieee.{up, down}
use Rattle.float.specs.declared.rounding.Ties.{Ties}
use Rattle.float.specs.declared.rounding.Ties.TheVariants.{Up, Even}

-- ---- a fraction

-- the whole part q or the next number up, by how twice the rest compares with the divisor; an exact half adds `tie`
abbrev pub settled : ℕ → ℕ → Ordering → ℕ
settled q tie Ordering.lt = q
settled q tie Ordering.eq = q + tie
settled q tie Ordering.gt = q + 1

-- The whole number nearest to n / d. `tie` says of the whole part what an exact half adds to it, 0 or 1.
unfoldable pub nearest_to : (ℕ → ℕ) → ℕ → ℕ → ℕ
nearest_to tie n d = settled (n / d) (tie (n / d)) (compare (n % d * 2) d)

-- ---- a float times a whole number

-- What an exact half adds to the size q of a number with this sign. Upward is to the greater number: away from zero above it, towards zero below. To the even one is the same on both sides.
abbrev pub at_half : Ties → Bool → ℕ → ℕ
at_half Up negative q = cond negative 0 1
at_half Even negative q = q % 2

-- n, or n below zero; zero has no sign
abbrev pub with_sign : Bool → ℕ → ℤ
with_sign negative n = cond negative (neg_ℤ (pos n)) (pos n)

-- whether x is below zero, or a zero with that sign
abbrev pub sign_of : Float → Bool
sign_of nan = false
sign_of (inf s) = s
sign_of (fin s m e) = s

-- The whole number nearest to the exact value of x times k: x is m * 2 ^ e, which is the fraction m * up e / down e, with a sign. An infinity and a NaN have none.
unfoldable pub whole_of : Ties → ℕ → Float → Option ℤ
whole_of ties k nan = None
whole_of ties k (inf s) = None
whole_of ties k (fin s m e) = Some (with_sign s (nearest_to (at_half ties s) (m * up e * k) (down e)))

-- ---- what `round_product` gives: its size, where a u32 holds it

abbrev pub size_held : ℕ → Option ℕ
size_held n = cond (nat_lt n (2 ^ 32)) (Some n) None

abbrev pub held : Option ℤ → Option ℕ
held None = None
held (Some z) = size_held (unsigned_abs z)

unfoldable pub product_of : Ties → ℕ → Float → Option ℕ
product_of ties k x = held (whole_of ties k x)

-- ---- what makes z the whole number nearest to n / d with the sign s, by a tie rule

-- z has that sign, or is 0; in size it is at most a half from n / d, said with all sides doubled; and at an exact half, q + 1 / 2, the rule says which of q and q + 1 it is in size.
pub record NearestWhole (ties : Ties) (s : Bool) (n d : ℕ) (z : ℤ) : Type 0 where
  pub size : ℕ
  pub signed : z ≡ with_sign s size
  pub above : 2 * n ≤ 2 * (size * d) + d
  pub below : 2 * (size * d) ≤ 2 * n + d
  pub half : (q : ℕ) → 2 * n ≡ 2 * (q * d) + d → size ≡ q + at_half ties s q
