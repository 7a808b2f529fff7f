-- Decimal digits: the two equations by which `decimal_text` is used. Assumes nothing.
use mathlib.Core.Bool.{Bool, true, false, cond}
use mathlib.Core.Path.{◌≡◌, refl, ap}
use mathlib.Core.List.{List, [], ◌∷◌, ◌++◌}
use Prim.Native.Nat.{ℕ, zero, suc, ◌/◌, ◌%◌, ◌≤◌, ◌<◌}
use native.Mathlib.Omega.{arith}
use borrow.Author.Tests.{lt-ltb, le-ltb, ltb-false}
use lib.Dec.{ltb}
use Rattle.text.specs.Digits.{digit_char, decimal_in, decimal_text}

-- by any two bounds
in_same : (k m n : ℕ) → n ≤ k → n ≤ m → decimal_in k n ≡ decimal_in m n
unfolding decimal_in
in_same zero zero n h g = refl
in_same zero (suc m) n h g = rw (lt-ltb n 10 (omega arith))
in_same (suc k) zero n h g = rw (lt-ltb n 10 (omega arith))
in_same (suc k) (suc m) n h g = go (ltb n 10) (ltb-false n 10) (λ l. in_same k m (n / 10) (omega arith) (omega arith))
  where
    go : (b : Bool) → (b ≡ false → 10 ≤ n) → (10 ≤ n → decimal_in k (n / 10) ≡ decimal_in m (n / 10))
        → cond b (digit_char n ∷ []) (decimal_in k (n / 10) ++ (digit_char (n % 10) ∷ [])) ≡ cond b (digit_char n ∷ []) (decimal_in m (n / 10) ++ (digit_char (n % 10) ∷ []))
    go true l e = refl
    go false l e = ap (λ (s : List ℕ). s ++ (digit_char (n % 10) ∷ [])) (e (l refl))

pub decimal_one : (n : ℕ) → n < 10 → decimal_text n ≡ digit_char n ∷ []
unfolding decimal_text decimal_in
decimal_one zero h = refl
decimal_one (suc n) h = rw (lt-ltb (suc n) 10 h)

pub decimal_more : (n : ℕ) → 10 ≤ n → decimal_text n ≡ decimal_text (n / 10) ++ (digit_char (n % 10) ∷ [])
unfolding decimal_text decimal_in
decimal_more zero h = absurd (omega arith)
decimal_more (suc n) h = rw (le-ltb (suc n) 10 h) (ap (λ (s : List ℕ). s ++ (digit_char (suc n % 10) ∷ [])) (in_same n (suc n / 10) (suc n / 10) (omega arith) (omega arith)))
