-- A value is at most l without its sign exactly where it lies between -l and l: for every value and every l, infinities and NaNs among them.
-- Assumes nothing.
use mathlib.Core.Bool.{Bool, true, false, not, ◌&&◌, ◌||◌}
use mathlib.Core.Path.{◌≡◌, refl, sym}
use Prim.Native.Nat.{ℕ, ◌+◌, ◌*◌}
use native.Mathlib.Omega.{arith}
use borrow.Author.Tests.{eq-eqb, ne_eqb, eqb-true, eqb-false, ltb-false}
use lib.Dec.{eqb, ltb}
use lib.Ieee.{Float, nan, inf, fin, neg, lt, eq, le, below, level, up, down}
use Rattle.float.specs.Basic.{abs_of}

-- ±a ≤ ±b
abbrev at_most : Bool → ℕ → Bool → ℕ → Bool
at_most s a t b = below s a t b || level s a t b

eqb-turned : (a b : ℕ) → eqb b a ≡ eqb a b
eqb-turned a b = go (eqb a b) refl
  where
    go : (p : Bool) → eqb a b ≡ p → eqb b a ≡ p
    go true e = eq-eqb b a (sym (eqb-true a b e))
    go false e = ne_eqb b a (λ h. eqb-false a b e (sym h))

-- -a ≤ b
below-zero : (a b : ℕ) → at_most true a false b ≡ true
below-zero a b = go (ltb 0 (a + b)) refl
  where
    go : (p : Bool) → ltb 0 (a + b) ≡ p → p || level true a false b ≡ true
    go true e = refl
    go false e =
        let z = ltb-false 0 (a + b) e in
        let u : a ≡ 0 = omega (arith, z) in
        let v : b ≡ 0 = omega (arith, z) in
        rw (u, v)

between : (s t : Bool) (a b : ℕ) → at_most (not t) b s a && at_most s a t b ≡ at_most false a t b
between false false a b = rw below-zero
between true false a b = rw (below-zero, eqb-turned a b) (go (ltb a b || (eqb a b && true)))
  where
    go : (p : Bool) → p && true ≡ p
    go true = refl
    go false = refl
between false true a b = rw (eqb-turned a b) (go (ltb b a) (eqb a b) (eqb a 0))
  where
    go : (p q r : Bool) → (p || (q && true)) && (q && r) ≡ q && r
    go true q r = refl
    go false true r = refl
    go false false r = refl
between true true a b = go (eqb a b) refl
  where
    go : (q : Bool) → eqb a b ≡ q → (eqb b a && eqb b 0) && (ltb b a || (q && true)) ≡ q && eqb a 0
    go true e = let h = eqb-true a b e in rw (eqb-turned a b, e, h) (last (eqb b 0) (ltb b b))
      where
        last : (p r : Bool) → p && (r || true) ≡ p
        last true true = refl
        last true false = refl
        last false r = refl
    go false e = rw (eqb-turned a b, e)

pub interval : (x l : Float) → le (neg l) x && le x l ≡ le (abs_of x) l
unfolding le lt eq neg abs_of
interval nan nan = refl
interval nan (inf t) = refl
interval nan (fin t n d) = refl
interval (inf s) nan = refl
interval (inf true) (inf true) = refl
interval (inf true) (inf false) = refl
interval (inf false) (inf true) = refl
interval (inf false) (inf false) = refl
interval (inf true) (fin t n d) = refl
interval (inf false) (fin t n d) = refl
interval (fin s m e) nan = refl
interval (fin s m e) (inf true) = refl
interval (fin s m e) (inf false) = refl
interval (fin s m e) (fin t n d) = between s t (m * up e * down d) (n * up d * down e)
