-- A set after any list of changes: its rows are the pieces that are present, in the order of adding, each with its own answer. Assumes nothing.
use mathlib.Core.Path.{◌≡◌, refl, sym, ap, ap₂, subst}
use mathlib.Core.Bool.{Bool, true, false, not, cond}
use mathlib.Core.List.{List, [], ◌∷◌, ◌++◌, map}
use Prim.Native.Nat.{ℕ, suc, ◌+◌, ◌≤◌}
use native.Mathlib.Nat.{not-suc-le-zero}
use native.Mathlib.Omega.{arith}
use borrow.Author.Tests.{ltb-false}
use lib.Dec.{eqb, leb}
use lib.ListN.{length}
use Rattle.std.specs.Prelude.{Option, Some, None, Result, Ok, Err}
use Rattle.std.specs.List.{position_or_len}
use Rattle.limits.specs.declared.refusal.Refusal.{Refusal}
use Rattle.limits.specs.Refused.{first_of, told}
use Rattle.arrays.specs.Rows.{drop_first}
use Rattle.curve_set.specs.Kept.{Row, row_of, this_rule, either, add_refusals, named, has, Change, add, remove, adding, after, is_taken, changed}
use Rattle.curve_set.proofs.Told.{passes-add}

told-kept : {A : Type 0} (o : Option Refusal) (x : Result A Refusal) (a : A) → told o x ≡ Ok a → (o ≡ None) × (x ≡ Ok a)
told-kept None x a e = (refl, e)
told-kept (Some r) x a e = absurd (cc)

-- where none passes, none goes
pub drop_none : {A : Type 0} (t : A → Bool) (s : List A) → length s ≤ position_or_len t s → drop_first t s ≡ s
unfolding drop_first
drop_none t [] h = refl
drop_none t (a ∷ s) h = go (t a) (drop_none t s) h
  where
    go : (b : Bool) → (length s ≤ position_or_len t s → drop_first t s ≡ s) → suc (length s) ≤ cond (not b) (1 + position_or_len t s) 0 → cond b s (a ∷ drop_first t s) ≡ a ∷ s
    go true ih h = absurd (not-suc-le-zero h)
    go false ih h = ap (λ r. a ∷ r) (ih (omega arith))

-- the rows s are those of the pieces l: each is within the limits, and each has its own answer
pub data Worked {P A : Type 0} (bad : P → Bool) (own : P → Result A Refusal) : List (Row P A) → List (ℕ × P) → Type 0 where
  none : Worked bad own [] []
  more : {n : ℕ} {p : P} {a : A} {s : List (Row P A)} {l : List (ℕ × P)} → bad p ≡ false → own p ≡ Ok a → Worked bad own s l → Worked bad own (row_of n this_rule p a ∷ s) ((n, p) ∷ l)

module _ {P A : Type 0} (size : ℕ) (bad : P → Bool) (own : P → Result A Refusal) where
  -- an add that is accepted was not refused early, and the piece's own answer is kept
  pub added : (s : List (Row P A)) (n : ℕ) (p : P) (a : A) → adding size bad own s n p ≡ Ok a
      → (first_of (add_refusals (bad p) (has (named n) s) (leb size (length s))) ≡ None) × (own p ≡ Ok a)
  unfolding adding
  added s n p a e = told-kept _ (own p) a e

  append_worked : {s : List (Row P A)} {l : List (ℕ × P)} (n : ℕ) (p : P) (a : A) → bad p ≡ false → own p ≡ Ok a → Worked bad own s l → Worked bad own (s ++ row_of n this_rule p a ∷ []) (l ++ (n, p) ∷ [])
  append_worked n p a b e none = more b e none
  append_worked n p a b e (more c g h) = more c g (append_worked n p a b e h)

  drop_worked : {s : List (Row P A)} {l : List (ℕ × P)} (n : ℕ) → Worked bad own s l → Worked bad own (drop_first (named n) s) (drop_first (λ x. eqb x.0 n) l)
  unfolding drop_first
  drop_worked n none = none
  drop_worked n (more {n = m} {p = p} {a = a} {s = s} {l = l} c g h) = go (eqb m n) (drop_worked n h)
    where
      go : (b : Bool) → Worked bad own (drop_first (named n) s) (drop_first (λ x. eqb x.0 n) l)
          → Worked bad own (cond b s (row_of m this_rule p a ∷ drop_first (named n) s)) (cond b l ((m, p) ∷ drop_first (λ x. eqb x.0 n) l))
      go true ih = h
      go false ih = more c g ih

  pub change_worked : (c : Change P) (s : List (Row P A)) (l : List (ℕ × P)) → Worked bad own s l → Worked bad own (after size bad own c s) (cond (is_taken size bad own c s) (changed c l) l)
  unfolding after is_taken changed
  change_worked (add n p) s l h = go (adding size bad own s n p) refl
    where
      go : (x : Result A Refusal) → adding size bad own s n p ≡ x → Worked bad own (either s (λ a. s ++ row_of n this_rule p a ∷ []) x) (cond (either false (λ a. true) x) (l ++ (n, p) ∷ []) l)
      go (Err r) e = h
      go (Ok a) e = let t = added s n p a e in append_worked n p a (passes-add (bad p) _ _ t.0).0 t.1 h
  change_worked (remove n) s l h = go (has (named n) s) refl
    where
      go : (b : Bool) → has (named n) s ≡ b → Worked bad own (drop_first (named n) s) (cond b (drop_first (λ x. eqb x.0 n) l) l)
      go true e = drop_worked n h
      go false e = subst (λ x. Worked bad own x l) (sym (drop_none (named n) s (ltb-false _ _ e))) h

-- so the numbers and pieces of the rows are those that are present
pub worked_present : {P A : Type 0} {bad : P → Bool} {own : P → Result A Refusal} {s : List (Row P A)} {l : List (ℕ × P)} → Worked bad own s l → map (λ r. (r.number, r.piece)) s ≡ l
worked_present none = refl
worked_present (more {n = n} {p = p} b e h) = ap (λ x. (n, p) ∷ x) (worked_present h)

-- and they have no other rows
pub worked_one : {P A : Type 0} {bad : P → Bool} {own : P → Result A Refusal} {s t : List (Row P A)} {l : List (ℕ × P)} → Worked bad own s l → Worked bad own t l → s ≡ t
worked_one none none = refl
worked_one (more {n = n} {p = p} b e h) (more c g k) = ap₂ (λ a x. row_of n this_rule p a ∷ x) (cc) (worked_one h k)
