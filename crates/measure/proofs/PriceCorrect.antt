-- A price straight by whole numbers: the area is num / den, and its price the whole number nearest to num * rate / den, a half upward. Assumes nothing.
use mathlib.Core.Path.{◌≡◌, refl, ◌∙◌}
use mathlib.Core.Bool.{true, false, not, cond, true≢false}
use mathlib.Core.List.{List}
use Prim.Native.Nat.{ℕ, ◌*◌, ◌≤◌, ◌<◌}
use borrow.Author.Tests.{le-ltb, lt-ltb}
use lib.Dec.{T, ltb}
use lib.Ieee.{Float, nan, inf, fin}
use lib.Ieee.Positive.{num, den}
use lib.Ieee.Scale.{finite}
use Rattle.float.specs.Whole.{nearest_to, whole_of, sign_of}
use Rattle.std.specs.Prelude.{Ok, Err}
use Rattle.limits.specs.Refused.{first_of}
use Rattle.limits.specs.declared.refusal.Refusal.TheVariants as refusal
use Rattle.curve.specs.Layout.{curve_from}
use Rattle.curve.specs.Curve.{is_curve}
use Rattle.measure.specs.Area.{area_of}
use Rattle.measure.specs.Price.{most_rate, most_cents, price_of, price_refusals, price_in}
use Rattle.measure.proofs.AreaUnsigned.{area_unsigned}

abbrev area_from : List Float → Float
area_from l = area_of (curve_from l)

-- the refusals in their order: 9, then 20, whatever the area

pub refused_nine : (l : List Float) (rate : ℕ) → is_curve l ≡ false → price_in l rate ≡ Err refusal.Curve
unfolding price_in price_refusals first_of
refused_nine l rate h = rw h refl

pub refused_rate : (l : List Float) (rate : ℕ) → is_curve l ≡ true → most_rate < rate → price_in l rate ≡ Err refusal.Rate
unfolding price_in price_refusals first_of
refused_rate l rate h k = rw (h, lt-ltb most_rate rate k) refl

passed : (l : List Float) (rate : ℕ) → is_curve l ≡ true → rate ≤ most_rate → price_in l rate ≡ price_of (area_from l) rate
unfolding price_in price_refusals first_of
passed l rate h k = rw (h, le-ltb most_rate rate k) refl

-- 21 is asked of the rounded price
pub price_correct :
    (l : List Float) (rate : ℕ) → is_curve l ≡ true → rate ≤ most_rate → T (finite (area_from l))
    → let cents = nearest_to (λ _. 1) (num (area_from l) * rate) (den (area_from l)) in price_in l rate ≡ cond (ltb most_cents cents) (Err refusal.Price) (Ok cents)
price_correct l rate h k f = passed l rate h k ∙ go (area_from l) (area_unsigned l h) f
  where
    go : (a : Float) → sign_of a ≡ false → T (finite a) → let cents = nearest_to (λ _. 1) (num a * rate) (den a) in price_of a rate ≡ cond (ltb most_cents cents) (Err refusal.Price) (Ok cents)
    go nan s f = absurd f
    go (inf s) e f = absurd f
    go (fin true m e) s f = absurd (true≢false s)
    go (fin false m e) s f = unfold price_of whole_of nearest_to in refl

-- an area that is an infinity or a NaN has no price, at any rate
pub price_of_no_number : (l : List Float) (rate : ℕ) → is_curve l ≡ true → rate ≤ most_rate → T (not (finite (area_from l))) → price_in l rate ≡ Err refusal.Price
price_of_no_number l rate h k f = passed l rate h k ∙ go (area_from l) f
  where
    go : (a : Float) → T (not (finite a)) → price_of a rate ≡ Err refusal.Price
    go nan f = unfold price_of whole_of in refl
    go (inf s) f = unfold price_of whole_of in refl
    go (fin s m e) f = absurd f
