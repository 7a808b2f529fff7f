-- The four turns, one after another, and the exchanges of columns back from the last. Assumes nothing.
use Rattle.std.proofs.Common.{◌≡◌, refl, sym, ap, ◌∙◌, ℕ, zero, suc, ◌+◌, List, [], ◌∷◌, length, ◌++◌, set, get_or, add-one, arith}
use Rattle.pivot.specs.declared.Pivot.{Pivot}
use Rattle.pivot.specs.Pivot.{Matrix, none_taken, pivot_of}
use Rattle.inverse.specs.Inverse.{AtMost, column_taken, turned, swap_columns, inverse_flat}
use Rattle.inverse.proofs.Taken.{after_turn, none}

-- the matrix and the marks before turn k
abbrev pub before : Matrix → ℕ → Matrix × List ℕ
before m zero = (m, none_taken)
before m (suc k) =
    let s = before m k in
    let p = pivot_of s.0 s.1 in
    (turned s.0 p, column_taken s.1 p.col)

-- and its pivot
abbrev pub pivot_at : Matrix → ℕ → Pivot
pivot_at m k = pivot_of (before m k).0 (before m k).1

pub left_more : (m : Matrix) (k : ℕ) → (before m (k + 1)).0 ≡ turned (before m k).0 (pivot_at m k)
left_more m k = rw add-one

pub taken_more : (m : Matrix) (k : ℕ) → (before m (k + 1)).1 ≡ column_taken (before m k).1 (pivot_at m k).col
taken_more m k = rw add-one

-- the pivots, where the first stands for those to come
abbrev pub filled : Matrix → ℕ → List Pivot
filled m zero = let p = pivot_at m 0 in p ∷ p ∷ p ∷ p ∷ []
filled m (suc k) = set (filled m k) k (pivot_at m k)

pub filled_more : (m : Matrix) (k : ℕ) → filled m (k + 1) ≡ set (filled m k) k (pivot_at m k)
filled_more m k = rw add-one

pub few : (m : Matrix) (k : ℕ) → AtMost k (before m k).1
few m zero = none
few m (suc k) = rw (← add-one k) (after_turn k _ _ _ refl (few m k))

-- the columns exchanged for each pivot, from the last
abbrev pub back : Matrix → List Pivot → Matrix
back m [] = m
back m (p ∷ ps) = swap_columns (back m ps) p.row p.col

pub back_more : (m : Matrix) (ps : List Pivot) (p : Pivot) → back m (ps ++ p ∷ []) ≡ back (swap_columns m p.row p.col) ps
back_more m [] p = refl
back_more m (q ∷ ps) p = ap (λ (n : Matrix). swap_columns n q.row q.col) (back_more m ps p)

pub back_none : (m : Matrix) (ps : List Pivot) → length ps ≡ 0 → back m ps ≡ m
back_none m [] e = refl
back_none m (p ∷ ps) e = absurd (omega (arith, e))

pub back_all : (m n : Matrix) (ps : List Pivot) (k : ℕ) → n ≡ (before m k).0 → ps ≡ filled m k → k ≡ 4 → back n ps ≡ inverse_flat m
unfolding inverse_flat
back_all m n ps k a b e = ap (λ (n : Matrix). back n ps) a ∙ ap (back (before m k).0) b ∙ ap (λ (i : ℕ). back (before m i).0 (filled m i)) e

-- the first column that is taken has the mark 1
pub first_taken : (i : List ℕ) (k : ℕ) → i ≡ set none_taken k 1 → i ≡ column_taken none_taken k
unfolding column_taken
first_taken i zero e = e
first_taken i (suc zero) e = e
first_taken i (suc (suc zero)) e = e
first_taken i (suc (suc (suc zero))) e = e
first_taken i (suc (suc (suc (suc k)))) e = e

pub later_taken : (i l : List ℕ) (k : ℕ) → i ≡ set l k (get_or l k 0 + 1) → i ≡ column_taken l k
unfolding column_taken
later_taken i l k e = e

-- after the first turn
pub at_one : (m m1 : Matrix) (p : Pivot) (i0 i1 : List ℕ) → i0 ≡ none_taken → p ≡ pivot_of m i0 → m1 ≡ turned m p → i1 ≡ set none_taken p.col 1
    → (m1 ≡ (before m 1).0) × (i1 ≡ (before m 1).1) × ((p ∷ p ∷ p ∷ p ∷ []) ≡ filled m 1)
at_one m m1 p i0 i1 e a b d =
    let q = a ∙ ap (pivot_of m) e in (
      b ∙ ap (turned m) q,
      first_taken i1 p.col d ∙ ap (λ (r : Pivot). column_taken none_taken r.col) q,
      ap (λ (r : Pivot). r ∷ r ∷ r ∷ r ∷ []) q,
    )

-- after one more
pub at_more : (m m0 m1 : Matrix) (p : Pivot) (i0 i1 : List ℕ) (ps : List Pivot) (k : ℕ)
    → (m0 ≡ (before m k).0) × (i0 ≡ (before m k).1) × (ps ≡ filled m k)
    → p ≡ pivot_of m0 i0 → m1 ≡ turned m0 p → i1 ≡ set i0 p.col (get_or i0 p.col 0 + 1)
    → (m1 ≡ (before m (k + 1)).0) × (i1 ≡ (before m (k + 1)).1) × (set ps k p ≡ filled m (k + 1))
at_more m m0 m1 p i0 i1 ps k h a b d =
    let t = later_taken i1 i0 p.col d in
    let q : p ≡ pivot_at m k = a ∙ ap (λ (n : Matrix). pivot_of n i0) h.0 ∙ ap (pivot_of (before m k).0) h.1 in (
      b ∙ ap (λ (n : Matrix). turned n p) h.0 ∙ ap (turned (before m k).0) q ∙ sym (left_more m k),
      t ∙ ap (λ (l : List ℕ). column_taken l p.col) h.1 ∙ ap (λ (r : Pivot). column_taken (before m k).1 r.col) q ∙ sym (taken_more m k),
      ap (λ (l : List Pivot). set l k p) h.2 ∙ ap (set (filled m k) k) q ∙ sym (filled_more m k),
    )
