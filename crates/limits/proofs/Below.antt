-- Tests over the numbers below n. Assumes nothing.
use mathlib.Core.Logic.{⊎_elim}
use mathlib.Core.Bool.{Bool, true, false, ◌&&◌, and-true, and-false, true≢false}
use mathlib.Core.Path.{◌≡◌, refl, sym, ap, ◌∙◌}
use Prim.Native.Nat.{ℕ, zero, suc, ◌+◌, ◌<◌}
use native.Mathlib.Nat.{le_refl, not-suc-le-zero, eq-or-lt_of_le, le_of_suc-le-suc}
use native.Mathlib.Numerals.{add-one}
use native.Mathlib.Omega.{arith}
use Rattle.limits.specs.Below.{all_below}

-- one more that passes
pub all_next : (P : ℕ → Bool) (k : ℕ) → all_below k P ≡ true → P k ≡ true → all_below (k + 1) P ≡ true
unfolding all_below
all_next P k a e = rw (add-one k, a, e)

-- one that fails
pub all_fails : (n : ℕ) (P : ℕ → Bool) (k : ℕ) → k < n → P k ≡ false → all_below n P ≡ false
unfolding all_below
all_fails zero P k l e = absurd (not-suc-le-zero l)
all_fails (suc n) P k l e =
    ⊎_elim (λ q. ap (λ b. all_below n P && b) (ap P (sym q) ∙ e) ∙ and-false (all_below n P)) (λ lt. ap (λ b. b && P n) (all_fails n P k lt e)) (eq-or-lt_of_le (le_of_suc-le-suc l))

-- where not all pass, one fails
pub all_found : (n : ℕ) (P : ℕ → Bool) → all_below n P ≡ false → (k : ℕ) × (k < n) × (P k ≡ false)
unfolding all_below
all_found zero P e = absurd (true≢false e)
all_found (suc n) P e = go (P n) refl (all_found n P) e
  where
    go : (b : Bool) → P n ≡ b → (all_below n P ≡ false → (k : ℕ) × (k < n) × (P k ≡ false)) → all_below n P && b ≡ false → (k : ℕ) × (k < suc n) × (P k ≡ false)
    go false q h e = (n, le_refl (suc n), q)
    go true q h e = let z = h (sym (and-true (all_below n P)) ∙ e) in (z.0, omega (arith, z.1), z.2)

pub all-each : (n : ℕ) (P : ℕ → Bool) → ((k : ℕ) → k < n → P k ≡ true) → all_below n P ≡ true
unfolding all_below
all-each zero P h = refl
all-each (suc n) P h = rw (all-each n P (λ k l. h k (omega arith)), h n (le_refl (suc n)))

pub all-at : (n : ℕ) (P : ℕ → Bool) → all_below n P ≡ true → (k : ℕ) → k < n → P k ≡ true
all-at n P a k l = go (P k) refl
  where
    go : (b : Bool) → P k ≡ b → b ≡ true
    go true e = refl
    go false e = sym (all_fails n P k l e) ∙ a

-- the first, and the others
pub all_first : (n : ℕ) (P Q : ℕ → Bool) → P 0 ≡ true → ((k : ℕ) → P (suc k) ≡ Q k) → all_below n Q ≡ true → all_below (suc n) P ≡ true
all_first n P Q p e a = all-each (suc n) P go
  where
    go : (k : ℕ) → k < suc n → P k ≡ true
    go zero l = p
    go (suc k) l = e k ∙ all-at n Q a k (le_of_suc-le-suc l)
