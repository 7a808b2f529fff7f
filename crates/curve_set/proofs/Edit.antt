-- What the two lists hold after a head or a row is written, a row is taken out, or the kept place is set. Assumes nothing.
use mathlib.Core.Path.{◌≡◌, refl, sym, ap, ap₂, ◌∙◌}
use mathlib.Core.Bool.{Bool, true, false, cond}
use mathlib.Core.List.{List, [], ◌∷◌, ◌++◌, append_assoc}
use Prim.Native.Nat.{ℕ, ◌+◌, ◌-◌, ◌*◌, ◌≤◌, ◌<◌}
use native.Mathlib.Numerals.{add-one}
use native.Mathlib.Omega.{arith}
use mir.Val.{bool_byte}
use lib.Dec.{ltb}
use lib.Ieee.{Float}
use lib.ListN.{length, get_or, take, drop, replicate, length-append, length-drop}
use lib.Seq.{take_at, drop_at, length-take-le, drop-drop}
use Rattle.std.specs.Prelude.{Some, None, is_some, min, slice_set}
use Rattle.float.specs.Arith.{0f}
use Rattle.geometry.specs.declared.ray.Ray.{Ray}
use Rattle.geometry.specs.Point.{point_from}
use Rattle.geometry.specs.Ray.{ray_from, flat_ray}
use Rattle.geometry.specs.Vector.{vector_from}
use Rattle.matrix.specs.declared.Matrix4x4.{Matrix4x4}
use Rattle.matrix.specs.Matrix.{row_from, matrix_from, flat}
use Rattle.limits.specs.List.{over}
use Rattle.limits.proofs.Lists.{length_over, over-append}
use Rattle.curve.specs.Layout.{floats}
use Rattle.interaction.specs.Floats.{record_size}
use Rattle.interaction.proofs.RecordBack.{length-record, record_back}
use Rattle.arrays.specs.Rows.{rows}
use Rattle.arrays.proofs.Cut.{without, over_add, rows_append, rows_without}
use Rattle.arrays.proofs.Moved.{part, length_part}
use Rattle.curve_set.specs.Kept.{row_of, this_rule}
use Rattle.curve_set.specs.Layout.{size, set_floats, set_words, head_floats, head_words, head_by, head_from, head_of, floats_opened, words_opened, count_of, counted, curve_room, row_floats, row_words, Answer, Kept, kind_of, answer_floats, answer_in, row_in, set_of, floats_put, words_put, floats_without, words_without}
use Rattle.curve_set.specs.declared.layout.Head.{Head}
use Rattle.curve_set.specs.Best.{best_word, refreshed}
use Rattle.curve_set.specs.Lent.{lent}
use Rattle.curve_set.specs.Calls.{Sized}
use Rattle.curve_set.proofs.Read.{count-le}

-- ---- behind a head of k

module _ {A : Type 0} (l : List A) (k a : ℕ) (s : List A) (h : k ≤ length l) where
  drop-over : drop k (over l (k + a) s) ≡ over (drop k l) a s
  drop-over = ap (drop k) (over_add l k a s) ∙ drop_at (take k l) (over (drop k l) a s) k (length-take-le k l h)

  take-over : take k (over l (k + a) s) ≡ take k l
  take-over = ap (take k) (over_add l k a s) ∙ take_at (take k l) (over (drop k l) a s) k (length-take-le k l h)

-- ---- what the code writes part by part

-- the head's floats
pub head_put : (f : List Float) (a b : Matrix4x4) (r : Ray) → head_floats ≤ length f → over (over (over f 0 (flat a)) 16 (flat b)) 32 (flat_ray r) ≡ over f 0 ((flat a ++ flat b) ++ flat_ray r)
unfolding flat flat_ray
head_put f a b r h = ap (λ l. over l 32 (flat_ray r)) (over-append f 0 (flat a) (flat b) (omega arith)) ∙ over-append f 0 (flat a ++ flat b) (flat_ray r) (omega arith)

-- the count is written
pub set-count : (w : List ℕ) (n : ℕ) → 0 < length w → slice_set w 0 n ≡ counted w n
unfolding counted over
set-count [] n h = absurd (omega arith)
set-count (a ∷ w) n h = refl

-- the kind of an answer as a word
pub kind_word : (a : Answer) → bool_byte (is_some a) ≡ kind_of a
kind_word None = refl
kind_word (Some h) = refl

-- a flag as a word
pub flag_word : (b : Bool) → bool_byte b ≡ cond b 1 0
flag_word true = refl
flag_word false = refl

-- a row's floats
pub row_put_lem : (f c z r : List Float) (at : ℕ) → length c ≡ 16 → length z ≡ 3 → at + 19 ≤ length f → over (over (over f at c) (at + 16) z) (at + 19) r ≡ over f at ((c ++ z) ++ r)
row_put_lem f c z r at ec ez h =
    let long : length (c ++ z) ≡ 19 = length-append c z ∙ ap₂ (λ (m n : ℕ). m + n) ec ez in
    ap (λ (k : ℕ). over (over (over f at c) (at + k) z) (at + 19) r) (sym ec)
    ∙ ap (λ l. over l (at + 19) r) (over-append f at c z (omega arith))
    ∙ ap (λ (k : ℕ). over (over f at (c ++ z)) (at + k) r) (sym long)
    ∙ over-append f at (c ++ z) r (omega arith)

-- ---- a row is read as what was written

abbrev row_put : List Float → Answer → List Float
row_put c a = (c ++ replicate (curve_room - floats) 0f) ++ answer_floats a

room_length : (c : List Float) → length c ≡ floats → length (c ++ replicate (curve_room - floats) 0f) ≡ curve_room
room_length c e = length-append c _ ∙ ap (λ (k : ℕ). k + 3) e

answer-length : (a : Answer) → length (answer_floats a) ≡ record_size
answer-length None = refl
answer-length (Some h) = length-record h

row_length : (c : List Float) (a : Answer) → length c ≡ floats → length (row_put c a) ≡ row_floats
row_length c a e = length-append (c ++ replicate (curve_room - floats) 0f) (answer_floats a) ∙ ap₂ (λ (m n : ℕ). m + n) (room_length c e) (answer-length a)

row_back : (n : ℕ) (c : List Float) (a : Answer) → length c ≡ floats → row_in (row_put c a) (n ∷ this_rule ∷ kind_of a ∷ []) ≡ row_of n this_rule c a
unfolding row_in
row_back n c a e =
    ap₂ (λ x y. row_of n this_rule x (answer_in (kind_of a) y))
    (ap (take floats) (append_assoc c (replicate (curve_room - floats) 0f) (answer_floats a)) ∙ take_at c _ floats e)
    (drop_at (c ++ replicate (curve_room - floats) 0f) (answer_floats a) curve_room (room_length c e))
    ∙ ap (row_of n this_rule c) (back a)
  where
    back : (a : Answer) → answer_in (kind_of a) (answer_floats a) ≡ a
    back None = refl
    back (Some h) = ap Some (record_back h)

-- ---- the head's words

count_is : (n : ℕ) → n ≤ size → min n size ≡ n
count_is n h = omega arith

-- three words are there
data Three : List ℕ → Type 0 where
  three : (a b c : ℕ) (w : List ℕ) → Three (a ∷ b ∷ c ∷ w)

are_three : (w : List ℕ) → head_words ≤ length w → Three w
are_three [] h = absurd (omega arith)
are_three (a ∷ []) h = absurd (omega arith)
are_three (a ∷ b ∷ []) h = absurd (omega arith)
are_three (a ∷ b ∷ c ∷ w) h = three a b c w

set-counted : (f : List Float) (w : List ℕ) (n : ℕ) → head_words ≤ length w → n ≤ size
    → (set_of f (counted w n) ≡ rows row_in row_floats row_words n (drop head_floats f) (drop head_words w)) × (get_or (counted w n) 2 0 ≡ get_or w 2 0) × (length (counted w n) ≡ length w)
set-counted f w n l h = go (are_three w l)
  where
    go : {w : List ℕ} → Three w
        → (set_of f (counted w n) ≡ rows row_in row_floats row_words n (drop head_floats f) (drop head_words w)) × (get_or (counted w n) 2 0 ≡ get_or w 2 0) × (length (counted w n) ≡ length w)
    go (three a b c w) = unfold set_of counted over count_of in (ap (λ (k : ℕ). rows row_in row_floats row_words k (drop head_floats f) w) (count_is n h), refl, refl)

-- a word of the head is not in a row
flag_over : (w : List ℕ) (a : ℕ) (t : List ℕ) → head_words ≤ length w → get_or (over w (head_words + a) t) 2 0 ≡ get_or w 2 0
flag_over w a t h = go (are_three w h)
  where
    go : {w : List ℕ} → Three w → get_or (over w (head_words + a) t) 2 0 ≡ get_or w 2 0
    go (three x y z w) = ap (λ (l : List ℕ). get_or l 2 0) (over_add (x ∷ y ∷ z ∷ w) head_words a t)

-- ---- the kept place: it is none of the rows, and it is read back

pub refreshed-view : (f : List Float) (w : List ℕ) → head_words ≤ length w
    → (set_of f (refreshed f w) ≡ set_of f w) × (head_of f (refreshed f w) ≡ head_of f w) × (get_or (refreshed f w) 1 0 ≡ best_word (set_of f w)) × (length (refreshed f w) ≡ length w)
refreshed-view f w h = go (are_three w h)
  where
    go : {w : List ℕ} → Three w
        → (set_of f (refreshed f w) ≡ set_of f w) × (head_of f (refreshed f w) ≡ head_of f w) × (get_or (refreshed f w) 1 0 ≡ best_word (set_of f w)) × (length (refreshed f w) ≡ length w)
    go (three a b c w) = unfold refreshed over set_of head_of count_of in (refl, refl, refl, refl)

-- ---- the edits
module _ (f : List Float) (w : List ℕ) (z : Sized (lent f w)) where
  -- the lists hold the rows s, the head is as it was, and so are the lengths
  abbrev Edited : List Float → List ℕ → List Kept → Type 0
  Edited F W s = (set_of F W ≡ s) × (head_of F W ≡ head_of f w) × Sized (lent F W)

  behind-floats : length (drop head_floats f) ≡ 2624
  behind-floats = length-drop head_floats f ∙ ap (λ (k : ℕ). k - head_floats) z.floats

  behind-words : length (drop head_words w) ≡ 192
  behind-words = length-drop head_words w ∙ ap (λ (k : ℕ). k - head_words) z.words

  pub set-opened : (h : Head) → let F = floats_opened f h in
      let W = words_opened w h in
      (set_of F W ≡ []) × (head_of F W ≡ h) × (get_or W 1 0 ≡ 0) × Sized (lent F W)
  set-opened h =
      let g = words (are_three w (omega (arith, z.words))) in
      (g.0, g.1, g.2, record { floats = long; words = g.3 ∙ z.words })
    where
      flag_back : (b : Bool) → ltb 0 (cond b 1 0) ≡ b
      flag_back true = refl
      flag_back false = refl

      long : length (floats_opened f h) ≡ set_floats
      long = unfold floats_opened flat flat_ray in length_over f 0 _ (omega (arith, z.floats)) ∙ z.floats

      words : {v : List ℕ} → Three v
          → (set_of (floats_opened f h) (words_opened v h) ≡ []) × (head_of (floats_opened f h) (words_opened v h) ≡ h) × (get_or (words_opened v h) 1 0 ≡ 0) × (length (words_opened v h) ≡ length v)
      words (three a b c v) =
          unfold floats_opened words_opened flat flat_ray over set_of count_of rows head_of head_from matrix_from row_from ray_from point_from vector_from in
          (refl, ap (λ x. head_by h.object_to_world h.world_to_object x h.ray) (flag_back h.reverse), refl, refl)

  pub edit_append : (n : ℕ) (c : List Float) (a : Answer) → count_of w < size → length c ≡ floats
      → Edited (floats_put f (count_of w) c (answer_floats a)) (counted (words_put w (count_of w) n (kind_of a)) (count_of w + 1)) (set_of f w ++ row_of n this_rule c a ∷ [])
  unfolding floats_put words_put set_of head_of
  edit_append n c a h e =
      let k = count_of w in
      let fs = row_put c a in
      let ws = n ∷ this_rule ∷ kind_of a ∷ [] in
      let lf = row_length c a e in
      let long : length (over w (head_words + k * row_words) ws) ≡ set_words = length_over w (head_words + k * row_words) ws (omega (arith, z.words)) ∙ z.words in
      let counts = set-counted (over f (head_floats + k * row_floats) fs) (over w (head_words + k * row_words) ws) (k + 1) (omega (arith, long)) (omega arith) in (
        counts.0
            ∙ ap₂ (λ x y. rows row_in row_floats row_words (k + 1) x y) (drop-over f head_floats (k * row_floats) fs (omega (arith, z.floats))) (drop-over w head_words (k * row_words) ws (omega (arith, z.words)))
            ∙ ap (λ (j : ℕ). rows row_in row_floats row_words j (over (drop head_floats f) (k * row_floats) fs) (over (drop head_words w) (k * row_words) ws)) (add-one k)
            ∙ rows_append row_in row_floats row_words k (drop head_floats f) fs (drop head_words w) ws lf refl (omega (arith, behind-floats)) (omega (arith, behind-words))
            ∙ ap (λ r. rows row_in row_floats row_words k (drop head_floats f) (drop head_words w) ++ r ∷ []) (row_back n c a e),
        ap₂ head_from (take-over f head_floats (k * row_floats) fs (omega (arith, z.floats))) (counts.1 ∙ flag_over w (k * row_words) ws (omega (arith, z.words))),
        record {
          floats = length_over f (head_floats + k * row_floats) fs (omega (arith, z.floats, lf)) ∙ z.floats;
          words = counts.2 ∙ long;
        },
      )

  pub edit_remove : (p : ℕ) → p < count_of w → Edited (floats_without f p (count_of w)) (words_without w p (count_of w)) (without p (set_of f w))
  unfolding floats_without words_without set_of head_of
  edit_remove p h =
      let k = count_of w in
      let le = count-le w in
      let fs = part f (head_floats + (p + 1) * row_floats) ((k - (p + 1)) * row_floats) in
      let ws = part w (head_words + (p + 1) * row_words) ((k - (p + 1)) * row_words) in
      let lf = length_part f (head_floats + (p + 1) * row_floats) ((k - (p + 1)) * row_floats) (omega (arith, z.floats)) in
      let lw = length_part w (head_words + (p + 1) * row_words) ((k - (p + 1)) * row_words) (omega (arith, z.words)) in
      let long : length (over w (head_words + p * row_words) ws) ≡ set_words = length_over w (head_words + p * row_words) ws (omega (arith, z.words, lw)) ∙ z.words in
      let counts = set-counted (over f (head_floats + p * row_floats) fs) (over w (head_words + p * row_words) ws) (k - 1) (omega (arith, long)) (omega arith) in (
        counts.0
            ∙ ap₂ (λ x y. rows row_in row_floats row_words (k - 1) x y)
            (drop-over f head_floats (p * row_floats) fs (omega (arith, z.floats)) ∙ ap (λ l. over (drop head_floats f) (p * row_floats) (take ((k - (p + 1)) * row_floats) l)) (sym (drop-drop ((p + 1) * row_floats) head_floats f)))
            (drop-over w head_words (p * row_words) ws (omega (arith, z.words)) ∙ ap (λ l. over (drop head_words w) (p * row_words) (take ((k - (p + 1)) * row_words) l)) (sym (drop-drop ((p + 1) * row_words) head_words w)))
            ∙ rows_without row_in row_floats row_words k p (drop head_floats f) (drop head_words w) h (omega (arith, behind-floats)) (omega (arith, behind-words)),
        ap₂ head_from (take-over f head_floats (p * row_floats) fs (omega (arith, z.floats))) (counts.1 ∙ flag_over w (p * row_words) ws (omega (arith, z.words))),
        record {
          floats = length_over f (head_floats + p * row_floats) fs (omega (arith, z.floats, lf)) ∙ z.floats;
          words = counts.2 ∙ long;
        },
      )
