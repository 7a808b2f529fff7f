-- The set that the two lists hold (`set_of`), read element by element. Assumes nothing.
use mathlib.Core.Path.{◌≡◌, refl, sym, ap, ap₂, ◌∙◌}
use mathlib.Core.Bool.{Bool, true, false, not, cond}
use mathlib.Core.List.{List, [], ◌∷◌}
use Prim.Native.Nat.{ℕ, zero, suc, ◌+◌, ◌-◌, ◌*◌, ◌≤◌, ◌<◌}
use native.Mathlib.Nat.{zero-add, add-zero, suc-add}
use native.Mathlib.Omega.{arith}
use borrow.Author.Tests.{lt-ltb, le-ltb, eqb-true, eqb-false}
use lib.Dec.{eqb, lit<}
use lib.Ieee.{Float, nan}
use lib.ListN.{length, get_or, take, drop, get_or-eq_default}
use lib.Seq.{get_or-take, get_or-drop, drop-drop, take-nil}
use Rattle.std.specs.Prelude.{Some, None}
use Rattle.std.specs.List.{find, position, range_with_len}
use Rattle.std.proofs.lemmas.List.Sums.{prefix_len_is}
use Rattle.interaction.specs.Floats.{record_size, record_from}
use Rattle.nearest.specs.Nearest.{is_hit, distance_in}
use Rattle.arrays.proofs.Cut.{length-rows, get_d_rows}
use Rattle.curve_set.specs.Kept.{named}
use Rattle.curve_set.specs.Layout.{size, head_floats, head_words, curve_room, row_floats, row_words, answer_in, row_in, count_of, set_of, number_at}
use Rattle.curve_set.specs.Best.{as_curve, no_row, answer_at, is_hit_at, distance_at}
use Rattle.curve_set.specs.Set.{shown, shown_by, shown_at, shown_in, nearest_in}

pub count-le : (w : List ℕ) → count_of w ≤ size
unfolding count_of
count-le w = omega arith

pub length-set : (f : List Float) (w : List ℕ) → length (set_of f w) ≡ count_of w
unfolding set_of
length-set f w = length-rows row_in row_floats row_words (count_of w) (drop head_floats f) (drop head_words w)

-- ---- the words of a row

-- the word j of the row i
word_at : (w : List ℕ) (i j : ℕ) → j < row_words → get_or (take row_words (drop (i * row_words) (drop head_words w))) j 0 ≡ get_or w (suc (suc (suc j)) + i * row_words) 0
word_at w i j h =
    get_or-take row_words (drop (i * row_words) (drop head_words w)) j 0 h
    ∙ get_or-drop (i * row_words) (drop head_words w) j 0
    ∙ get_or-drop head_words w (i * row_words + j) 0
    ∙ ap (λ (k : ℕ). get_or w k 0) (turn (i * row_words) j)
  where
    turn : (a b : ℕ) → 3 + (a + b) ≡ suc (suc (suc b)) + a
    turn a b = omega arith

-- ---- the record of a row

drop-take : {A : Type 0} (n m : ℕ) (l : List A) → drop n (take (n + m) l) ≡ take m (drop n l)
drop-take zero m l = ap (λ (k : ℕ). take k l) (zero-add m)
drop-take (suc n) m [] = ap (drop (suc n)) (take-nil (suc n + m)) ∙ sym (take-nil m)
drop-take (suc n) m (a ∷ l) = ap (λ (k : ℕ). drop (suc n) (take k (a ∷ l))) (suc-add n m) ∙ drop-take n m l

-- its floats, behind the room for the curve
record-at : (f : List Float) (i : ℕ) → drop curve_room (take row_floats (drop (i * row_floats) (drop head_floats f))) ≡ take record_size (drop (59 + i * row_floats) f)
record-at f i =
    drop-take curve_room record_size (drop (i * row_floats) (drop head_floats f))
    ∙ ap (take record_size) (drop-drop curve_room (i * row_floats) (drop head_floats f) ∙ drop-drop (i * row_floats + curve_room) head_floats f ∙ ap (λ (k : ℕ). drop k f) (turn (i * row_floats)))
  where
    turn : (a : ℕ) → 40 + (a + 19) ≡ 59 + a
    turn a = omega arith

module _ (f : List Float) (w : List ℕ) (i : ℕ) (h : i < count_of w) where
  number-at : (get_or (set_of f w) i no_row).number ≡ number_at w i
  unfolding set_of row_in
  number-at = ap (λ r. r.number) (get_d_rows row_in row_floats row_words (count_of w) i (drop head_floats f) (drop head_words w) no_row h) ∙ word_at w i 0 (lit< tt)

  answer_is : (get_or (set_of f w) i no_row).answer ≡ cond (is_hit_at w i) (Some (record_from (take record_size (drop (59 + i * row_floats) f)))) None
  unfolding set_of row_in
  answer_is =
      ap (λ r. r.answer) (get_d_rows row_in row_floats row_words (count_of w) i (drop head_floats f) (drop head_words w) no_row h)
      ∙ ap₂ (λ (k : ℕ) l. answer_in k l) (word_at w i 2 (lit< tt)) (record-at f i)

  -- what the row i shows
  row_shows : shown_by (get_or (set_of f w) i no_row) ≡ shown_in f w i
  unfolding shown_in
  row_shows = ap₂ shown number-at answer_is ∙ go (is_hit_at w i)
    where
      go : (b : Bool) → shown (number_at w i) (cond b (Some (record_from (take record_size (drop (59 + i * row_floats) f)))) None) ≡ cond b (Some (record_from (take record_size (drop (59 + i * row_floats) f)), number_at w i)) None
      go true = refl
      go false = refl

  -- whether it is hit, and how far away
  pub hit_at : is_hit_at w i ≡ is_hit (answer_at (set_of f w) i)
  unfolding answer_at
  hit_at = rw answer_is (go (is_hit_at w i))
    where
      go : (b : Bool) → b ≡ is_hit (as_curve i (cond b (Some (record_from (take record_size (drop (59 + i * row_floats) f)))) None))
      go true = refl
      go false = refl

  pub distance-at : is_hit_at w i ≡ true → distance_at f i ≡ distance_in (answer_at (set_of f w) i)
  unfolding answer_at record_from
  distance-at e = rw (answer_is, e) (sym (get_or-take record_size (drop (59 + i * row_floats) f) 0 nan (lit< tt) ∙ get_or-drop (59 + i * row_floats) f 0 nan ∙ ap (λ (k : ℕ). get_or f k nan) (add-zero (59 + i * row_floats))))

-- ---- the place of a number

module _ (f : List Float) (w : List ℕ) (number : ℕ) where
  abbrev misses : ℕ → Type 0
  misses i = (k : ℕ) → k < i → eqb (number_at w k) number ≡ false

  missed : (i : ℕ) → i ≤ count_of w → misses i → (k : ℕ) → k < i → not (named number (get_or (set_of f w) k no_row)) ≡ true
  missed i l h k b = rw (number-at f w k (omega arith), h k b)

  pub position_found : (i : ℕ) → i < count_of w → misses i → eqb (number_at w i) number ≡ true → Some i ≡ position (named number) (set_of f w)
  position_found i l h e =
      let long = length-set f w in
      let there : i < length (set_of f w) = omega arith in
      rw (prefix_len_is (λ x. not (named number x)) (set_of f w) i no_row (omega arith) (missed i (omega arith) h) (λ _. rw (number-at f w i l, e)), lt-ltb i (length (set_of f w)) there)

  pub position_missing : misses (count_of w) → None ≡ position (named number) (set_of f w)
  position_missing h =
      let long = length-set f w in
      let all : length (set_of f w) ≤ length (set_of f w) = omega arith in
      rw (prefix_len_is (λ x. not (named number x)) (set_of f w) (length (set_of f w)) no_row all (missed (length (set_of f w)) (omega arith) (λ k b. h k (omega arith))) (λ l. absurd (omega arith)), le-ltb (length (set_of f w)) (length (set_of f w)) all)

  more_missed : (i : ℕ) → misses i → eqb (number_at w i) number ≡ false → misses (i + 1)
  more_missed i h e k l = go (eqb k i) refl
    where
      go : (b : Bool) → eqb k i ≡ b → eqb (number_at w k) number ≡ false
      go true s = rw (eqb-true k i s) e
      go false s = let apart = eqb-false k i s in h k (omega arith)

  -- among the places from i on
  pub position_from : (i n : ℕ) → i + n ≡ count_of w → misses i → find (λ p. eqb (number_at w p) number) (range_with_len i n) ≡ position (named number) (set_of f w)
  position_from i zero e h = position_missing (λ k l. h k (omega arith))
  position_from i (suc n) e h = go (eqb (number_at w i) number) refl (λ s. position_from (i + 1) n (omega arith) (more_missed i h s))
    where
      go : (b : Bool) → eqb (number_at w i) number ≡ b → (eqb (number_at w i) number ≡ false → find (λ p. eqb (number_at w p) number) (range_with_len (i + 1) n) ≡ position (named number) (set_of f w)) → find (λ p. eqb (number_at w p) number) (range_with_len i (suc n)) ≡ position (named number) (set_of f w)
      go true s rest = rw s (position_found i (omega arith) h s)
      go false s rest = rw s (rest s)

-- ---- what the kept place shows

module _ (f : List Float) (w : List ℕ) where
  pub nearest_none : get_or w 1 0 ≡ 0 → None ≡ nearest_in f w
  unfolding nearest_in
  nearest_none z = rw z

  at_place : (p : ℕ) → 1 ≤ get_or w 1 0 → p ≡ get_or w 1 0 - 1 → shown_by (get_or (set_of f w) p no_row) ≡ nearest_in f w
  unfolding nearest_in
  at_place p l e =
      let kept : get_or w 1 0 ≡ suc p = omega arith in
      sym (ap (λ (q : ℕ). shown_at q (set_of f w)) kept)

  pub nearest-shown : (p : ℕ) → 1 ≤ get_or w 1 0 → p ≡ get_or w 1 0 - 1 → p < count_of w → shown_in f w p ≡ nearest_in f w
  nearest-shown p l e h = sym (row_shows f w p h) ∙ at_place p l e

  pub nearest_out : (p : ℕ) → 1 ≤ get_or w 1 0 → p ≡ get_or w 1 0 - 1 → count_of w ≤ p → None ≡ nearest_in f w
  nearest_out p l e h =
      let long = length-set f w in
      let out : length (set_of f w) ≤ p = omega arith in
      ap shown_by (sym (get_or-eq_default (set_of f w) no_row {n = p} out)) ∙ at_place p l e
