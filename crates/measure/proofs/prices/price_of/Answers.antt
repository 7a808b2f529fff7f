-- What a u32 does not hold is over the limit.
use Rattle.std.proofs.Common.{◌≡◌, ℕ, ◌^◌, ◌<◌, ◌≤◌, Bool, true, false, cond, Option, Some, None, Result, Ok, Err, refl, sym, ap, ◌∙◌, arith}
use borrow.Author.Tests.{le-ltb, lt-ltb, ltb-false}
use lib.Dec.{ltb}
use lib.Ieee.{Float}
use lib.IntN.{ℤ, nat_abs}
use Rattle.float.specs.declared.rounding.Ties.TheVariants.{Up}
use Rattle.float.specs.Whole.{whole_of, held, product_of}
use Rattle.limits.specs.declared.refusal.Refusal.{Refusal}
use Rattle.limits.specs.declared.refusal.Refusal.TheVariants as refusal
use Rattle.measure.specs.Price.{most_cents, priced, price_of}
use Rattle.measure.proofs.prices.price_of.Goals as goal

-- what the code makes of a rounded product
abbrev taken : Option ℕ → Result ℕ Refusal
taken (Some n) = cond (ltb most_cents n) (Err refusal.Price) (Ok n)
taken None = Err refusal.Price

taken-held : (o : Option ℤ) → taken (held o) ≡ priced o
taken-held None = refl
taken-held (Some z) = go (nat_abs z) (ltb (nat_abs z) (2 ^ 32)) (ltb-false (nat_abs z) (2 ^ 32))
  where
    go : (n : ℕ) (b : Bool) → (b ≡ false → 2 ^ 32 ≤ n) → taken (cond b (Some n) None) ≡ cond (ltb most_cents n) (Err refusal.Price) (Ok n)
    go n true h = refl
    go n false h = sym (rw (lt-ltb most_cents n (over n (h refl))))
      where
        over : (n : ℕ) → 2 ^ 32 ≤ n → most_cents < n
        over n l = omega arith

price_of-taken : (area : Float) (rate : ℕ) (o : Option ℕ) → o ≡ product_of Up rate area → price_of area rate ≡ taken o
unfolding price_of product_of
price_of-taken area rate o e = sym (ap taken e ∙ taken-held (whole_of Up rate area))

pub returns-in-Some : goal.returns-in-Some
returns-in-Some c = rw (price_of-taken _ _ _ c.round_product.ensures, c.in-Some.is, le-ltb _ _ c.if-cents-le-MOST_CENTS.true)

pub returns-in_default : goal.returns-in_default
returns-in_default c = rw (price_of-taken _ _ _ c.round_product.ensures, c.in-Some.is, lt-ltb _ _ c.if-cents-le-MOST_CENTS.false)

pub returns-in_default-2 : goal.returns-in_default-2
returns-in_default-2 c = rw (price_of-taken _ _ _ c.round_product.ensures, c.in_default.is)
