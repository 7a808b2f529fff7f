-- A row whose entry c is written first, and then each entry k by what stands there, is the row of which each entry k is written by what
-- stood there before, but for the new entry at c. Assumes nothing.
use mathlib.Core.Path.{◌≡◌, refl, sym, ap, ◌∙◌}
use mathlib.Core.Logic.{◌≢◌, ⊎_elim}
use mathlib.Core.Bool.{Bool, cond}
use mathlib.Core.List.{List, [], ◌∷◌}
use Prim.Native.Nat.{ℕ, zero, suc, ◌+◌, ◌*◌, ◌≤◌, ◌<◌}
use native.Mathlib.Nat.{add-zero, le_of_suc-le-suc, not-suc-le-zero, eq-or-lt_of_le}
use native.Mathlib.Omega.{arith}
use Rattle.std.proofs.Math.Numerals.{add-one}
use borrow.Author.Tests.{eq-eqb, ne_eqb}
use lib.Dec.{eqb}
use lib.ListN.{get_or, set}
use lib.Seq.{get_or-set_other, set_comm}
use lib.Ieee.{Float, nan}
use Rattle.float.specs.Arith.{◌⊖◌, ◌⊗◌, ◌⊘◌, 0f, 1f}
use Rattle.pivot.specs.Pivot.{Matrix, at}
use Rattle.inverse.specs.Inverse.{scale_row, cleared}

-- a place that was just written is written by what was put there, also past the list's end
set_again : {A : Type 0} (l : List A) (i : ℕ) (a d : A) (f : A → A) → set (set l i a) i (f (get_or (set l i a) i d)) ≡ set l i (f a)
set_again [] i a d f = refl
set_again (x ∷ xs) zero a d f = refl
set_again (x ∷ xs) (suc i) a d f = ap (λ (r : List _). x ∷ r) (set_again xs i a d f)

apart : (r i k : ℕ) → i ≢ k → r + i ≢ r + k
apart r i k n e = n (omega arith)

-- entry k of a row becomes f k of the list and of an entry
module _ {A : Type 0} (d o : A) (f : ℕ → List A → A → A) (r c : ℕ) where
  -- of what stands there now
  abbrev each : ℕ → List A → List A
  each zero l = l
  each (suc k) l = let h = each k l in set h (r + k) (f k h (get_or h (r + k) d))

  -- of what stood there in m, but o at c
  abbrev pub first : List A → ℕ → List A
  first m zero = m
  first m (suc k) = let h = first m k in set h (r + k) (f k h (cond (eqb k c) o (get_or m (r + k) d)))

  -- what f takes from the list stands in no place of the row
  abbrev Away : Type 0
  Away = (k i : ℕ) (l : List A) (a x : A) → k < 4 → i < 4 → f k (set l (r + i) a) x ≡ f k l x

  -- the entries from k on are as they were
  kept : (m : List A) (k i : ℕ) → k ≤ i → get_or (first m k) (r + i) d ≡ get_or m (r + i) d
  kept m zero i h = refl
  kept m (suc k) i h = get_or-set_other (first m k) (r + k) (r + i) _ d (apart r i k (λ e. omega arith)) ∙ kept m k i (omega arith)

  -- while c is still to come
  before : (m : List A) → Away → (k : ℕ) → k ≤ c → c < 4 → each k (set m (r + c) o) ≡ set (first m k) (r + c) o
  before m away zero h b = refl
  before m away (suc k) h b =
      let n : k ≢ c = λ e. omega arith in
      let z = first m k in
      let y = set z (r + c) o in
      ap (λ (l : List A). set l (r + k) (f k l (get_or l (r + k) d))) (before m away k (omega arith) b)
      ∙ ap (λ (x : A). set y (r + k) x)
      (away k c z o _ (omega arith) b
      ∙ ap (f k z) (get_or-set_other z (r + c) (r + k) o d (apart r k c n) ∙ kept m k k (omega arith) ∙ ap (λ (t : Bool). cond t o (get_or m (r + k) d)) (sym (ne_eqb k c n))))
      ∙ set_comm z (r + c) (r + k) o _ (apart r c k (λ e. n (sym e)))

  -- at c
  meets : (m : List A) → Away → (k : ℕ) → c ≡ k → k < 4 → each (suc k) (set m (r + c) o) ≡ first m (suc k)
  meets m away k e b =
      let z = first m k in
      let p = r + k in
      ap (λ (l : List A). set l p (f k l (get_or l p d))) (before m away k (omega arith) (omega arith))
      ∙ ap (λ (i : ℕ). let y = set z (r + i) o in set y p (f k y (get_or y p d))) e
      ∙ ap (λ (x : A). set (set z p o) p x) (away k k z o _ b b)
      ∙ set_again z p o d (f k z)
      ∙ ap (λ (t : Bool). set z p (f k z (cond t o (get_or m p d)))) (sym (eq-eqb k c (sym e)))

  -- and after it
  after : (m : List A) → Away → (k : ℕ) → c < k → k ≤ 4 → each k (set m (r + c) o) ≡ first m k
  after m away zero h b = absurd (not-suc-le-zero h)
  after m away (suc k) h b =
      let z = first m k in
      let p = r + k in
      ⊎_elim (λ e. meets m away k e (omega arith))
      (λ (g : c < k).
      ap (λ (l : List A). set l p (f k l (get_or l p d))) (after m away k g (omega arith))
      ∙ ap (λ (x : A). set z p (f k z x)) (kept m k k (omega arith) ∙ ap (λ (t : Bool). cond t o (get_or m p d)) (sym (ne_eqb k c (λ e. omega arith)))))
      (eq-or-lt_of_le (le_of_suc-le-suc h))

  -- one entry more
  pub first_more : (m : List A) (k : ℕ) → first m (k + 1) ≡ set (first m k) (r + k) (f k (first m k) (cond (eqb k c) o (get_or m (r + k) d)))
  first_more m k = rw add-one

  written : (m : List A) → Away → c < 4 → first m 4 ≡ each 4 (set m (r + c) o)
  written m away b = sym (after m away 4 b (omega arith))

-- row c is divided by its pivot
abbrev pub divided : Matrix → ℕ → ℕ → Matrix → Float → Float
divided m c k l x = x ⊗ (1f ⊘ at m (4 * c + c))

pub scaled : (m : Matrix) (c : ℕ) → c < 4 → first nan 1f (divided m c) (4 * c) c m 4 ≡ scale_row m c
unfolding scale_row
scaled m c b = written nan 1f (divided m c) (4 * c) c m (λ k i l a x g h. refl) b ∙ rw (add-zero (4 * c))

-- row j loses a multiple of row c
abbrev pub lessened : Matrix → ℕ → ℕ → ℕ → Matrix → Float → Float
lessened m c j k l x = x ⊖ at l (4 * c + k) ⊗ at m (4 * j + c)

pub without : (m : Matrix) (c j : ℕ) → c < 4 → j ≢ c → first nan 0f (lessened m c j) (4 * j) c m 4 ≡ cleared m c j
unfolding cleared
without m c j b n = written nan 0f (lessened m c j) (4 * j) c m away b ∙ rw (add-zero (4 * j), add-zero (4 * c))
  where
    away : Away nan 0f (lessened m c j) (4 * j) c
    away k i l a x g h =
        ap (λ (y : Float). x ⊖ y ⊗ at m (4 * j + c)) (get_or-set_other l (4 * j + i) (4 * c + k) a nan (λ e. n (omega arith)))
