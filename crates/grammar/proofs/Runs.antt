-- A run of tests that pass, from 0 on. Assumes nothing.
use mathlib.Core.Logic.{⊎_elim}
use mathlib.Core.Bool.{Bool, true, false, cond, ◌&&◌, and-false, and-eq-true_iff}
use mathlib.Core.Path.{◌≡◌, refl, sym, ap, subst, ◌∙◌}
use Prim.Native.Nat.{ℕ, zero, suc, ◌<◌, ◌≤◌}
use native.Mathlib.Nat.{le_refl, not-suc-le-zero, eq-or-lt_of_le, le_of_suc-le-suc}
use native.Mathlib.Omega.{arith}
use borrow.Author.Tests.{eqb-true, eqb-false, eq-eqb, ne_eqb}
use lib.Dec.{eqb}
use Rattle.limits.specs.Below.{all_below}
use Rattle.grammar.specs.Grammar.{run_below}

-- all pass
run-all : (n : ℕ) (P : ℕ → Bool) → all_below n P ≡ true → run_below n P ≡ n
unfolding all_below run_below
run-all zero P a = refl
run-all (suc n) P a = let h = (and-eq-true_iff (all_below n P) (P n)).0 a in rw (run-all n P h.0, eq-eqb n n refl, h.1)

-- the first k pass, and the next does not
run_ends : (n : ℕ) (P : ℕ → Bool) (k : ℕ) → k < n → all_below k P ≡ true → P k ≡ false → run_below n P ≡ k
unfolding run_below
run_ends zero P k l a e = absurd (not-suc-le-zero l)
run_ends (suc n) P k l a e = ⊎_elim last (λ lt. before lt (run_ends n P k lt a e)) (eq-or-lt_of_le (le_of_suc-le-suc l))
  where
    last : k ≡ n → cond (eqb (run_below n P) n && P n) (suc n) (run_below n P) ≡ k
    last q = let f : P n ≡ false = ap P (sym q) ∙ e in rw (f, and-false (eqb (run_below n P) n)) (run-all n P (subst (λ m. all_below m P ≡ true) q a) ∙ sym q)

    before : k < n → run_below n P ≡ k → cond (eqb (run_below n P) n && P n) (suc n) (run_below n P) ≡ k
    before lt r = rw (r, ne_eqb k n (λ q. omega arith))

-- a run of k: all n pass, or the next does not
pub run_is : (n : ℕ) (P : ℕ → Bool) (k : ℕ) → k ≤ n → all_below k P ≡ true → (k < n → P k ≡ false) → run_below n P ≡ k
run_is n P k l a e = ⊎_elim (λ q. ap (λ m. run_below m P) (sym q) ∙ run-all k P a) (λ lt. run_ends n P k lt a (e lt)) (eq-or-lt_of_le l)

pub run-most : (n : ℕ) (P : ℕ → Bool) → run_below n P ≤ n
unfolding run_below
run-most zero P = le_refl 0
run-most (suc n) P = go (eqb (run_below n P) n && P n) (run-most n P)
  where
    go : (b : Bool) → run_below n P ≤ n → cond b (suc n) (run_below n P) ≤ suc n
    go true h = le_refl (suc n)
    go false h = omega arith

-- all of a run pass
pub run-passes : (n : ℕ) (P : ℕ → Bool) → all_below (run_below n P) P ≡ true
unfolding run_below all_below
run-passes zero P = refl
run-passes (suc n) P = go (eqb (run_below n P) n) (P n) refl refl (run-passes n P)
  where
    go : (b d : Bool) → eqb (run_below n P) n ≡ b → P n ≡ d → all_below (run_below n P) P ≡ true → all_below (cond (b && d) (suc n) (run_below n P)) P ≡ true
    go true true e f a = let all = subst (λ m. all_below m P ≡ true) (eqb-true (run_below n P) n e) a in rw (all, f)
    go true false e f a = a
    go false d e f a = a

-- and what stops it does not
pub run_fails : (n : ℕ) (P : ℕ → Bool) → run_below n P < n → P (run_below n P) ≡ false
unfolding run_below
run_fails zero P h = absurd (not-suc-le-zero h)
run_fails (suc n) P h = go (eqb (run_below n P) n) (P n) refl refl h (λ lt. run_fails n P lt)
  where
    go : (b d : Bool) → eqb (run_below n P) n ≡ b → P n ≡ d → cond (b && d) (suc n) (run_below n P) < suc n → (run_below n P < n → P (run_below n P) ≡ false)
        → P (cond (b && d) (suc n) (run_below n P)) ≡ false
    go true true e f h r = absurd (omega arith)
    go true false e f h r = ap P (eqb-true (run_below n P) n e) ∙ f
    go false d e f h r = r (⊎_elim (λ q. absurd (eqb-false (run_below n P) n e q)) (λ lt. lt) (eq-or-lt_of_le (run-most n P)))

-- a run that stops before n is as long among more
pub run_longer : (n m : ℕ) (P : ℕ → Bool) → n ≤ m → run_below n P < n → run_below m P ≡ run_below n P
run_longer n m P h s = run_is m P (run_below n P) (omega arith) (run-passes n P) (λ _. run_fails n P s)
