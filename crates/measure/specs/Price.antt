-- The price of a curve's area, in cents. Definitions only.
use Rattle.std.specs.Prelude.{ℕ, not, cond, Option, Some, None, Result, Ok, Err, List, [], ◌∷◌, ltb, ℤ, nat_abs, Float}
use Rattle.float.specs.declared.rounding.Ties.TheVariants.{Up}
use Rattle.float.specs.Whole.{whole_of}
use Rattle.limits.specs.Refused.{Table, first_of, told}
use Rattle.limits.specs.declared.refusal.Refusal.{Refusal}
use Rattle.limits.specs.declared.refusal.Refusal.TheVariants as refusal
use Rattle.curve.specs.Layout.{curve_from}
use Rattle.curve.specs.Curve.{is_curve}
use Rattle.measure.specs.Area.{area_of}

-- cents for a unit of area, and cents
abbrev pub most_rate : ℕ
most_rate = 1_000_000

abbrev pub most_cents : ℕ
most_cents = 1_000_000_000

-- The rounded price, if it is one: 21 is asked of it, and of an area that is an infinity or a NaN. An area has no sign (`area_unsigned`), so it is told by its size.
abbrev pub priced : Option ℤ → Result ℕ Refusal
priced None = Err refusal.Price
priced (Some z) = cond (ltb most_cents (nat_abs z)) (Err refusal.Price) (Ok (nat_abs z))

-- the exact value of the area times the rate, to the nearest cent, a half upward
unfoldable pub price_of : Float → ℕ → Result ℕ Refusal
price_of area rate = priced (whole_of Up rate area)

-- 9, 20
unfoldable pub price_refusals : List Float → ℕ → Table
price_refusals l rate = (not (is_curve l), refusal.Curve) ∷ (ltb most_rate rate, refusal.Rate) ∷ []

unfoldable pub price_in : List Float → ℕ → Result ℕ Refusal
price_in l rate = told (first_of (price_refusals l rate)) (price_of (area_of (curve_from l)) rate)
