-- Rows cut from two lists: a row written behind them, one taken out. For any row, of k and m elements. Assumes nothing.
use mathlib.Core.Path.{◌≡◌, refl, sym, ap, ap₂, ◌∙◌, subst}
use mathlib.Core.Bool.{Bool, true, false, not, cond}
use mathlib.Core.List.{List, [], ◌∷◌, ◌++◌, append_assoc}
use Prim.Native.Nat.{ℕ, zero, suc, ◌+◌, ◌-◌, ◌*◌, ◌≤◌, ◌<◌}
use native.Mathlib.Nat.{add_comm, add_assoc, zero-add, zero-mul, suc-add, suc-mul, le_of_suc-le-suc, not-suc-le-zero, suc-sub-suc, sub-zero}
use native.Mathlib.Numerals.{add-one}
use native.Mathlib.Omega.{arith}
use lib.ListN.{length, get_or, take, drop, length-drop}
use lib.Seq.{length-take-le, take-add, drop-drop, take_at, drop_at}
use Rattle.std.specs.List.{position_or_len}
use Rattle.arrays.specs.Rows.{rows, drop_first}
use Rattle.limits.specs.List.{over}
use Rattle.arrays.proofs.Moved.{part}

-- all but the element at p
unfoldable pub without : {A : Type 0} → ℕ → List A → List A
without p [] = []
without zero (a ∷ l) = l
without (suc p) (a ∷ l) = a ∷ without p l

pub without_position : {A : Type 0} (t : A → Bool) (l : List A) → without (position_or_len t l) l ≡ drop_first t l
unfolding without drop_first
without_position t [] = refl
without_position t (a ∷ l) = go (t a) (without_position t l)
  where
    one : (n : ℕ) → 1 + n ≡ suc n
    one n = suc-add zero n ∙ ap suc (zero-add n)

    go : (b : Bool) → without (position_or_len t l) l ≡ drop_first t l → without (cond (not b) (1 + position_or_len t l) 0) (a ∷ l) ≡ cond b l (a ∷ drop_first t l)
    go true h = refl
    go false h = ap (λ (n : ℕ). without n (a ∷ l)) (one (position_or_len t l)) ∙ ap (λ r. a ∷ r) h

-- ---- one list

row_next : (p k : ℕ) → suc p * k ≡ k + p * k
row_next p k = suc-mul p k ∙ add_comm (p * k) k

module _ {A : Type 0} where
  pub drop_row : (l : List A) (p k : ℕ) → drop (suc p * k) l ≡ drop (p * k) (drop k l)
  drop_row l p k = ap (λ (n : ℕ). drop n l) (row_next p k) ∙ sym (drop-drop (p * k) k l)

  take_row : (l : List A) (p k : ℕ) → take (suc p * k) l ≡ take k l ++ take (p * k) (drop k l)
  take_row l p k = ap (λ (n : ℕ). take n l) (row_next p k) ∙ take-add k (p * k) l

  -- what is written behind the first k
  pub over_add : (l : List A) (k a : ℕ) (s : List A) → over l (k + a) s ≡ take k l ++ over (drop k l) a s
  unfolding over
  over_add l k a s =
      ap (λ (x : List A). (x ++ s) ++ drop (k + a + length s) l) (take-add k a l)
      ∙ ap (λ (x : List A). ((take k l ++ take a (drop k l)) ++ s) ++ x) (ap (λ (n : ℕ). drop n l) (add_assoc k a (length s)) ∙ sym (drop-drop (a + length s) k l))
      ∙ ap (λ (x : List A). x ++ drop (a + length s) (drop k l)) (append_assoc (take k l) (take a (drop k l)) s)
      ∙ append_assoc (take k l) (take a (drop k l) ++ s) (drop (a + length s) (drop k l))

  over_row : (l : List A) (p k : ℕ) (s : List A) → over l (suc p * k) s ≡ take k l ++ over (drop k l) (p * k) s
  over_row l p k s = ap (λ (n : ℕ). over l n s) (row_next p k) ∙ over_add l k (p * k) s

  over_zero : (l : List A) (k : ℕ) (s : List A) → over l (zero * k) s ≡ s ++ drop (length s) l
  unfolding over
  over_zero l k s = ap (λ (n : ℕ). (take n l ++ s) ++ drop (n + length s) l) (zero-mul k) ∙ ap (λ (n : ℕ). s ++ drop n l) (zero-add (length s))

-- so many rows are there, and there remain as many
room : (n k : ℕ) {A : Type 0} (l : List A) → suc n * k ≤ length l → (k ≤ length l) × (n * k ≤ length (drop k l))
room n k l h = (omega (arith, suc-mul n k), subst (λ (x : ℕ). n * k ≤ x) (sym (length-drop k l)) (omega (arith, suc-mul n k)))

-- ---- two lists
module _ {A B C : Type 0} (row : List A → List B → C) (k m : ℕ) where
  abbrev cut : ℕ → List A → List B → List C
  cut = rows row k m

  -- a first row that is known
  rows-first : (n : ℕ) (s f : List A) (t w : List B) → length s ≡ k → length t ≡ m → cut (suc n) (s ++ f) (t ++ w) ≡ row s t ∷ cut n f w
  unfolding rows
  rows-first n s f t w e g = rw (take_at s f k e, take_at t w m g, drop_at s f k e, drop_at t w m g)

  -- what is written behind the first row
  rows-over : (n p : ℕ) (f s : List A) (w t : List B) → k ≤ length f → m ≤ length w
      → cut (suc n) (over f (suc p * k) s) (over w (suc p * m) t) ≡ row (take k f) (take m w) ∷ cut n (over (drop k f) (p * k) s) (over (drop m w) (p * m) t)
  rows-over n p f s w t h g =
      ap₂ (λ x y. cut (suc n) x y) (over_row f p k s) (over_row w p m t)
      ∙ rows-first n (take k f) (over (drop k f) (p * k) s) (take m w) (over (drop m w) (p * m) t) (length-take-le k f h) (length-take-le m w g)

  -- what is written over the first row
  rows_start : (n : ℕ) (f s : List A) (w t : List B) → length s ≡ k → length t ≡ m → cut (suc n) (over f (zero * k) s) (over w (zero * m) t) ≡ row s t ∷ cut n (drop k f) (drop m w)
  rows_start n f s w t e g =
      ap₂ (λ x y. cut (suc n) x y) (over_zero f k s ∙ ap (λ (j : ℕ). s ++ drop j f) e) (over_zero w m t ∙ ap (λ (j : ℕ). t ++ drop j w) g)
      ∙ rows-first n s (drop k f) t (drop m w) e g

  pub rows_append : (n : ℕ) (f s : List A) (w t : List B) → length s ≡ k → length t ≡ m → suc n * k ≤ length f → suc n * m ≤ length w
      → cut (suc n) (over f (n * k) s) (over w (n * m) t) ≡ cut n f w ++ row s t ∷ []
  unfolding rows
  rows_append zero f s w t e g h i = rows_start zero f s w t e g
  rows_append (suc n) f s w t e g h i =
      let a = room (suc n) k f h in
      let b = room (suc n) m w i in
      rows-over (suc n) n f s w t a.0 b.0
      ∙ ap (λ r. row (take k f) (take m w) ∷ r) (rows_append n (drop k f) s (drop m w) t e g a.1 b.1)

  -- what lies behind n rows is not read
  rows_front : (n : ℕ) (f x : List A) (w y : List B) → n * k ≤ length f → n * m ≤ length w → cut n (take (n * k) f ++ x) (take (n * m) w ++ y) ≡ cut n f w
  unfolding rows
  rows_front zero f x w y h i = refl
  rows_front (suc n) f x w y h i =
      let a = room n k f h in
      let b = room n m w i in
      ap₂ (λ p q. cut (suc n) p q)
      (ap (λ p. p ++ x) (take_row f n k) ∙ append_assoc (take k f) (take (n * k) (drop k f)) x)
      (ap (λ q. q ++ y) (take_row w n m) ∙ append_assoc (take m w) (take (n * m) (drop m w)) y)
      ∙ rows-first n (take k f) _ (take m w) _ (length-take-le k f a.0) (length-take-le m w b.0)
      ∙ ap (λ r. row (take k f) (take m w) ∷ r) (rows_front n (drop k f) x (drop m w) y a.1 b.1)

  -- of n + 1 rows the one at p goes, and those behind it move down
  pub rows-remove : (n p : ℕ) (f : List A) (w : List B) → p < suc n → suc n * k ≤ length f → suc n * m ≤ length w
      → cut n (over f (p * k) (part f (suc p * k) ((n - p) * k))) (over w (p * m) (part w (suc p * m) ((n - p) * m))) ≡ without p (cut (suc n) f w)
  unfolding rows without
  rows-remove n zero f w l h i =
      let a = room n k f h in
      let b = room n m w i in
      ap₂ (λ x y. cut n x y) (start f k a.1) (start w m b.1) ∙ rows_front n (drop k f) _ (drop m w) _ a.1 b.1
    where
      start : {D : Type 0} (l : List D) (j : ℕ) → n * j ≤ length (drop j l) → over l (zero * j) (part l (suc zero * j) ((n - zero) * j)) ≡ take (n * j) (drop j l) ++ drop (length (take (n * j) (drop j l))) l
      start l j h =
          ap₂ (λ (a b : ℕ). over l (zero * j) (part l a (b * j))) (suc-mul zero j ∙ ap (λ (x : ℕ). x + j) (zero-mul j) ∙ zero-add j) (sub-zero n)
          ∙ over_zero l j (part l j (n * j))
  rows-remove zero (suc p) f w l h i = absurd (not-suc-le-zero (le_of_suc-le-suc l))
  rows-remove (suc n) (suc p) f w l h i =
      let a = room (suc n) k f h in
      let b = room (suc n) m w i in
      rows-over n p f _ w _ a.0 b.0
      ∙ ap (λ r. row (take k f) (take m w) ∷ r)
      (ap₂ (λ x y. cut n (over (drop k f) (p * k) x) (over (drop m w) (p * m) y)) (next f k) (next w m)
      ∙ rows-remove n p (drop k f) (drop m w) (le_of_suc-le-suc l) a.1 b.1)
    where
      next : {D : Type 0} (l : List D) (j : ℕ) → part l (suc (suc p) * j) ((suc n - suc p) * j) ≡ part (drop j l) (suc p * j) ((n - p) * j)
      next l j = ap₂ (λ (a : ℕ) x. take (a * j) x) (suc-sub-suc n p) (drop_row l (suc p) j)

  -- the same, counted by n
  pub rows_without : (n p : ℕ) (f : List A) (w : List B) → p < n → n * k ≤ length f → n * m ≤ length w
      → cut (n - 1) (over f (p * k) (part f ((p + 1) * k) ((n - (p + 1)) * k))) (over w (p * m) (part w ((p + 1) * m) ((n - (p + 1)) * m))) ≡ without p (cut n f w)
  rows_without zero p f w l h i = absurd (not-suc-le-zero l)
  rows_without (suc n) p f w l h i =
      ap (λ (q : ℕ). cut (suc n - 1) (over f (p * k) (part f (q * k) ((suc n - q) * k))) (over w (p * m) (part w (q * m) ((suc n - q) * m)))) (add-one p)
      ∙ ap (λ (j : ℕ). cut (suc n - 1) (over f (p * k) (part f (suc p * k) (j * k))) (over w (p * m) (part w (suc p * m) (j * m)))) (suc-sub-suc n p)
      ∙ ap (λ (j : ℕ). cut j (over f (p * k) (part f (suc p * k) ((n - p) * k))) (over w (p * m) (part w (suc p * m) ((n - p) * m)))) (suc-sub-suc n 0 ∙ sub-zero n)
      ∙ rows-remove n p f w l h i

  pub length-rows : (n : ℕ) (f : List A) (w : List B) → length (cut n f w) ≡ n
  unfolding rows
  length-rows zero f w = refl
  length-rows (suc n) f w = ap suc (length-rows n (drop k f) (drop m w))

  -- the row i
  abbrev pub row_at : List A → List B → ℕ → C
  row_at f w i = row (take k (drop (i * k) f)) (take m (drop (i * m) w))

  row_first : (f : List A) (w : List B) → row_at f w zero ≡ row (take k f) (take m w)
  row_first f w = ap₂ (λ (a b : ℕ). row (take k (drop a f)) (take m (drop b w))) (zero-mul k) (zero-mul m)

  row_suc : (f : List A) (w : List B) (i : ℕ) → row_at f w (suc i) ≡ row_at (drop k f) (drop m w) i
  row_suc f w i = ap₂ (λ a b. row (take k a) (take m b)) (drop_row f i k) (drop_row w i m)

  pub get_d_rows : (n i : ℕ) (f : List A) (w : List B) (d : C) → i < n → get_or (cut n f w) i d ≡ row_at f w i
  unfolding rows
  get_d_rows zero i f w d l = absurd (not-suc-le-zero l)
  get_d_rows (suc n) zero f w d l = sym (row_first f w)
  get_d_rows (suc n) (suc i) f w d l = get_d_rows n i (drop k f) (drop m w) d (le_of_suc-le-suc l) ∙ sym (row_suc f w i)
