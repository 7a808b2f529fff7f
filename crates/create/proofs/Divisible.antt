-- That n - 1 - degree, which may be below zero, is divisible by the degree exactly where n + degree - 1 is, which is 2 * degree more and is not.
-- Assumes nothing.
use mathlib.Core.Path.{◌≡◌, refl, sym, ap, ◌∙◌}
use mathlib.Core.Bool.{Bool, true, false}
use Prim.Native.Nat.{ℕ, zero, suc, ◌+◌, ◌-◌, ◌%◌, ◌≤◌, ◌<◌}
use native.Mathlib.Nat.{mod-eq_of_lt, add-mod_right, add-mod_left, sub-add_cancel}
use native.Mathlib.Omega.{arith}
use borrow.Author.Tests.{lt-ltb, le-ltb, ltb-true, ltb-false, ne_eqb}
use lib.Dec.{eqb, ltb}
use lib.IntN.{pos, nat_abs, ◌-ℤ◌}
use Rattle.create.specs.Create.{divisible}

-- ---- the distance of two numbers

above : (a b : ℕ) → b ≤ a → pos a -ℤ pos b ≡ pos (a - b)
above a zero l = ap pos (omega arith)
above a (suc b) l = rw (le-ltb a (suc b) l)

below : (a b : ℕ) → a < b → nat_abs (pos a -ℤ pos b) ≡ b - a
below a zero l = absurd (omega arith)
below a (suc b) l = rw (lt-ltb a (suc b) l) (omega arith)

-- ---- m - d for m = n - 1

less : (m d : ℕ) → 0 < m → m < d → nat_abs (pos m -ℤ pos d) % d ≡ 0 → ⊥
less m d s h e = rest m d h (sym (mod-eq_of_lt (small m d s h)) ∙ ap (λ (x : ℕ). x % d) (sym (below m d h)) ∙ e)
  where
    small : (m d : ℕ) → 0 < m → m < d → d - m < d
    small m d s h = omega arith

    rest : (m d : ℕ) → m < d → d - m ≡ 0 → ⊥
    rest m d h e = omega arith

more : (m d : ℕ) → 0 < m → m < d → (m + d) % d ≡ 0 → ⊥
more m d s h e = let z : m ≡ 0 = sym (mod-eq_of_lt h) ∙ sym (add-mod_right m d) ∙ e in omega arith

further : (m d : ℕ) → d ≤ m → nat_abs (pos m -ℤ pos d) % d ≡ (m + d) % d
further m d h = ap (λ z. nat_abs z % d) (above m d h) ∙ sym (add-mod_right (m - d) d) ∙ ap (λ (x : ℕ). x % d) (sub-add_cancel h) ∙ sym (add-mod_right m d)

from_one : (m d : ℕ) → 0 < d → eqb (nat_abs (pos m -ℤ pos d) % d) 0 ≡ eqb ((m + d) % d) 0
from_one zero d l = ap (λ (x : ℕ). eqb (x % d) 0) (below zero d l ∙ omega arith)
from_one (suc m) d l = go (ltb (suc m) d) refl
  where
    go : (t : Bool) → ltb (suc m) d ≡ t → eqb (nat_abs (pos (suc m) -ℤ pos d) % d) 0 ≡ eqb ((suc m + d) % d) 0
    go true e = let h = ltb-true _ _ e in ne_eqb _ 0 (less (suc m) d (omega arith) h) ∙ sym (ne_eqb _ 0 (more (suc m) d (omega arith) h))
    go false e = ap (λ (x : ℕ). eqb x 0) (further (suc m) d (ltb-false _ _ e))

-- ---- any n

pub unsigned : (n d : ℕ) → 2 ≤ d → divisible (pos n -ℤ pos 1 -ℤ pos d) d ≡ eqb ((n + d - 1) % d) 0
unfolding divisible
unsigned zero d l = ne_eqb _ 0 (λ e. absurd (one d l e)) ∙ sym (ne_eqb _ 0 (λ e. absurd (last d l e)))
  where
    one : (d : ℕ) → 2 ≤ d → nat_abs (pos 0 -ℤ pos 1 -ℤ pos d) % d ≡ 0 → ⊥
    one zero l e = absurd (omega arith)
    one (suc d) l e = let z : ◌≡◌ {A = ℕ} 1 0 = sym (mod-eq_of_lt (omega arith)) ∙ sym (add-mod_left (suc d) 1) ∙ ap (λ (x : ℕ). x % suc d) (omega arith) ∙ e in omega arith

    last : (d : ℕ) → 2 ≤ d → (0 + d - 1) % d ≡ 0 → ⊥
    last d l e = let z : 0 + d - 1 ≡ 0 = sym (mod-eq_of_lt (omega arith)) ∙ e in omega arith
unsigned (suc m) d l = ap (λ z. eqb (nat_abs (z -ℤ pos d) % d) 0) (above (suc m) 1 (omega arith) ∙ ap pos (omega arith)) ∙ from_one m d (omega arith) ∙ ap (λ (x : ℕ). eqb (x % d) 0) (omega arith)
