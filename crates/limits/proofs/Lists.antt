-- Writing over a list (`over`) and lists in a row (`up_to`). Assumes nothing.
use mathlib.Core.Path.{◌≡◌, sym, ap, ◌∙◌, subst}
use mathlib.Core.List.{List, [], ◌++◌, append_assoc, append-nil}
use mathlib.Core.Logic.{inl, inr}
use Prim.Native.Nat.{ℕ, zero, suc, ◌+◌, ◌-◌, ◌*◌, ◌≤◌, ◌<◌}
use native.Mathlib.Nat.{add-zero, add_assoc, suc-mul, zero-mul, le_of_suc-le-suc, not-suc-le-zero, eq-or-lt_of_le}
use native.Mathlib.Numerals.{add-one}
use native.Mathlib.Omega.{arith}
use lib.ListN.{length, take, drop, length-append, length-drop, take-append-drop}
use lib.Seq.{length-take-le, take_at, drop_at, drop-append-add, drop-drop, take-length, paste}
use Rattle.limits.specs.List.{over, up_to}

module _ {A : Type 0} where
  pub over_nil : (d : List A) (at : ℕ) → over d at [] ≡ d
  unfolding over
  over_nil d at = ap (λ (k : ℕ). (take at d ++ []) ++ drop k d) (add-zero at) ∙ ap (λ (r : List A). r ++ drop at d) (append-nil (take at d)) ∙ take-append-drop at d

  -- the list up to the end of what was written
  head_length : (d : List A) (at : ℕ) (s : List A) → at + length s ≤ length d → length (take at d ++ s) ≡ at + length s
  head_length d at s h = length-append (take at d) s ∙ ap (λ (k : ℕ). k + length s) (length-take-le at d (omega arith))

  pub length_over : (d : List A) (at : ℕ) (s : List A) → at + length s ≤ length d → length (over d at s) ≡ length d
  unfolding over
  length_over d at s h =
      length-append (take at d ++ s) (drop (at + length s) d)
      ∙ ap (λ (k : ℕ). k + length (drop (at + length s) d)) (head_length d at s h)
      ∙ ap (λ (k : ℕ). at + length s + k) (length-drop (at + length s) d)
      ∙ back (at + length s) (length d) h
    where
      back : (a b : ℕ) → a ≤ b → a + (b - a) ≡ b
      back a b l = omega arith

  -- what is written behind
  pub over-append : (d : List A) (at : ℕ) (s t : List A) → at + length s ≤ length d → over (over d at s) (at + length s) t ≡ over d at (s ++ t)
  unfolding over
  over-append d at s t h =
      let p = take at d ++ s in
      let r = drop (at + length s) d in
      ap (λ (l : List A). (l ++ t) ++ drop (at + length s + length t) (p ++ r)) (take_at p r (at + length s) (head_length d at s h))
      ∙ ap (λ (k : ℕ). (p ++ t) ++ drop (k + length t) (p ++ r)) (sym (head_length d at s h))
      ∙ ap (λ (l : List A). (p ++ t) ++ l) (drop-append-add p r (length t) ∙ drop-drop (length t) (at + length s) d)
      ∙ ap (λ (k : ℕ). (p ++ t) ++ drop k d) (add_assoc at (length s) (length t) ∙ ap (λ (k : ℕ). at + k) (sym (length-append s t)))
      ∙ ap (λ (l : List A). l ++ drop (at + length (s ++ t)) d) (append_assoc (take at d) s t)

  pub paste_over : (d : List A) (at : ℕ) (s : List A) → paste d at s (length s) ≡ over d at s
  unfolding over
  paste_over d at s = ap (λ (l : List A). (take at d ++ l) ++ drop (at + length s) d) (take-length s)

  pub length-up_to : (f : ℕ → List A) (k n : ℕ) → ((i : ℕ) → length (f i) ≡ k) → length (up_to f n) ≡ n * k
  unfolding up_to
  length-up_to f k zero h = sym (zero-mul k)
  length-up_to f k (suc n) h = length-append (up_to f n) (f n) ∙ ap (λ (x : ℕ). x + length (f n)) (length-up_to f k n h) ∙ ap (λ (x : ℕ). n * k + x) (h n) ∙ sym (suc-mul n k)

  -- a loop's turn: behind the first i lists of k elements each comes the next
  pub over_next : (d : List A) (at : ℕ) (f : ℕ → List A) (k i : ℕ) → ((j : ℕ) → length (f j) ≡ k) → at + i * k ≤ length d → over (over d at (up_to f i)) (at + i * k) (f i) ≡ over d at (up_to f (i + 1))
  unfolding up_to
  over_next d at f k i h l =
      let e = length-up_to f k i h in
      ap (λ (x : ℕ). over (over d at (up_to f i)) (at + x) (f i)) (sym e)
      ∙ over-append d at (up_to f i) (f i) (subst (λ (x : ℕ). at + x ≤ length d) (sym e) l)
      ∙ ap (λ (x : ℕ). over d at (up_to f x)) (sym (add-one i))

  pub over-length : (d : List A) (at : ℕ) (f : ℕ → List A) (k i : ℕ) → ((j : ℕ) → length (f j) ≡ k) → at + i * k ≤ length d → length (over d at (up_to f i)) ≡ length d
  over-length d at f k i h l = length_over d at (up_to f i) (subst (λ (x : ℕ). at + x ≤ length d) (sym (length-up_to f k i h)) l)

  -- behind the first i lists of k elements each, whatever follows the last, comes the list i
  pub up_to-at : (f : ℕ → List A) (k n i : ℕ) (r : List A) → ((j : ℕ) → length (f j) ≡ k) → i < n → (t : List A) × (drop (i * k) (up_to f n ++ r) ≡ f i ++ t)
  unfolding up_to
  up_to-at f k zero i r h l = absurd (not-suc-le-zero l)
  up_to-at f k (suc n) i r h l =
      rw (append_assoc (up_to f n) (f n) r)
      (elim (eq-or-lt_of_le (le_of_suc-le-suc l)) [
        | inl e ↦ (r, rw e (drop_at (up_to f n) (f n ++ r) (n * k) (length-up_to f k n h)))
        | inr g ↦ up_to-at f k n i (f n ++ r) h g
      ])
