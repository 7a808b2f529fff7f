-- Numbers and NaNs in `min` and `max`. Assumes nothing.
use mathlib.Core.Path.{◌≡◌, refl, sym, subst}
use mathlib.Core.Bool.{Bool, true, false, ◌||◌, cond, true≢false}
use lib.Ieee.{Float, lt, is_nan}
use Rattle.float.specs.Basic.{max_of, min_of}
use Rattle.float.proofs.Order.{number_before, number_behind}
use Rattle.bezier.specs.declared.corners.Corners.{Corners}
use Rattle.bezier.specs.declared.extent.Extent.{Extent}
use Rattle.bezier.specs.declared.points.PaddedPoint.{PaddedPoint}
use Rattle.bezier.specs.Corners.{AllNumbers, corners_with}
use Rattle.bezier.specs.Extent.{extent_at, extent_union, extent_with, Numbers}

-- where a test of two, or of four, fails, each of them does
pub neither : (p q : Bool) → p || q ≡ false → (p ≡ false) × (q ≡ false)
neither true q e = absurd (true≢false e)
neither false q e = (refl, e)

pub none_of_four : (p q r s : Bool) → p || q || r || s ≡ false → (p ≡ false) × (q ≡ false) × (r ≡ false) × (s ≡ false)
none_of_four p q r s e =
    let h = neither (p || q || r) s e in
    let k = neither (p || q) r h.0 in
    let n = neither p q k.0 in
    (n.0, n.1, k.1, h.1)

-- what is picked is a number, if b is one where the test says so
picks : (a b : Float) (t : Bool) → is_nan a ≡ false → (t ≡ true → is_nan b ≡ false) → is_nan (cond (is_nan a || t) b a) ≡ false
picks a b true h k = subst (λ (n : Bool). is_nan (cond (n || true) b a) ≡ false) (sym h) (k refl)
picks a b false h k = subst (λ (n : Bool). is_nan (cond (n || false) b a) ≡ false) (sym h) h

-- of a number and anything, `min` and `max` give a number
pub min-number : (a b : Float) → is_nan a ≡ false → is_nan (min_of a b) ≡ false
unfolding min_of
min-number a b h = picks a b (lt b a) h (number_before b a)

pub max-number : (a b : Float) → is_nan a ≡ false → is_nan (max_of a b) ≡ false
unfolding max_of
max-number a b h = picks a b (lt a b) h (number_behind b a)

pub numbers_with : (e : Extent) (v : Float) → Numbers e → Numbers (extent_with e v)
unfolding extent_with extent_union extent_at
numbers_with e v n = (min-number e.least v n.0, max-number e.greatest v n.1)

pub all_numbers_with : (c : Corners) (p : PaddedPoint) → AllNumbers c → AllNumbers (corners_with c p)
unfolding corners_with
all_numbers_with c p n =
    (numbers_with c.x p.x n.0, numbers_with c.y p.y n.1, numbers_with c.z p.z n.2, numbers_with c.fourth p.fourth n.3)
