-- What each call answers and leaves, by what its code found. Assumes nothing.
use mathlib.Core.Path.{◌≡◌, refl, sym}
use mathlib.Core.Bool.{Bool, true, false, not, cond}
use mathlib.Core.List.{List}
use Prim.Native.Nat.{ℕ, ◌≤◌, ◌<◌}
use native.Mathlib.Omega.{arith}
use borrow.Author.Tests.{leb-false, le-leb, lt-leb, ltb-true}
use lib.Dec.{ltb, leb}
use lib.Ieee.{Float}
use lib.ListN.{length}
use Rattle.std.specs.Prelude.{Option, Some, None, Result, Ok, Err, is_some, ok_or}
use Rattle.std.specs.List.{position_or_len, position}
use Rattle.limits.specs.declared.refusal.Refusal.{Refusal}
use Rattle.limits.specs.declared.refusal.Refusal.TheVariants.{Curve, NumberPresent, SetFull, NumberMissing}
use Rattle.limits.specs.Refused.{first_of, told, told_by}
use Rattle.limits.proofs.Told.{passed, told-ok, told-err}
use Rattle.curve.specs.Curve.{is_curve}
use Rattle.curve.specs.Layout.{floats}
use Rattle.curve.proofs.Records.{curve_length}
use Rattle.curve_set.specs.Kept.{add_refusals, early, add, remove, adding, either, named, has}
use Rattle.curve_set.specs.Layout.{size, head_of, floats_opened, words_opened, count_of, Answer, Kept, set_of}
use Rattle.curve_set.specs.declared.layout.Head.{Head}
use Rattle.curve_set.specs.Lent.{Lent, lent, with_head, with_row, without_row, with_best}
use Rattle.curve_set.specs.Set.{open_refusal, open_floats, open_words, own_of, is_bad, add_told, add_result, add_answer, add_floats, add_words, remove_answer, remove_floats, remove_words}
use Rattle.curve_set.specs.Calls.{opened, answer_to, changed_by}
use Rattle.curve_set.proofs.Read.{length-set}

-- a call is done
abbrev pub done : Result (Unit {0}) Refusal
done = Ok tt

-- ---- open
module _ (h : Head) (l : Lent) where
  pub open_done : done ≡ told (open_refusal h) done → with_head h l ≡ opened h l
  unfolding open_floats open_words
  open_done e = go (open_refusal h) e
    where
      go : (o : Option Refusal) → done ≡ told o done → with_head h l ≡ lent (told_by (λ _. l.floats) o (floats_opened l.floats h)) (told_by (λ _. l.words) o (words_opened l.words h))
      go None e = refl
      go (Some r) e = absurd (cc)

  pub open-refused : (r : Refusal) → Err r ≡ told (open_refusal h) done → l ≡ opened h l
  unfolding open_floats open_words
  open-refused r e = go (open_refusal h) e
    where
      go : (o : Option Refusal) → Err r ≡ told o done → l ≡ lent (told_by (λ _. l.floats) o (floats_opened l.floats h)) (told_by (λ _. l.words) o (words_opened l.words h))
      go None e = absurd (cc)
      go (Some s) e = refl

-- ---- add

-- where an add is not refused early
pub passes-add : (b t full : Bool) → first_of (add_refusals b t full) ≡ None → (b ≡ false) × (full ≡ false)
unfolding add_refusals
passes-add b t full e =
    let curve = passed b Curve _ e in
    let number = passed t NumberPresent _ curve.1 in
    (curve.0, (passed full SetFull _ number.1).0)

pub has_position : {A : Type 0} (t : A → Bool) (s : List A) → is_some (position t s) ≡ has t s
has_position t s = go (ltb (position_or_len t s) (length s))
  where
    go : (b : Bool) → is_some (cond b (Some (position_or_len t s)) None) ≡ b
    go true = refl
    go false = refl

-- the set is not full, and the curve is one
pub not_full : (b t : Bool) (n : ℕ) → first_of (add_refusals b t (leb size n)) ≡ None → n < size
not_full b t n e = leb-false size n (passes-add b t (leb size n) e).1

pub is_long : (c : List Float) (t full : Bool) → first_of (add_refusals (not (is_curve c)) t full) ≡ None → length c ≡ floats
is_long c t full e = curve_length c (go (is_curve c) (passes-add (not (is_curve c)) t full e).0)
  where
    go : (b : Bool) → not b ≡ false → b ≡ true
    go true e = refl
    go false e = sym e

module _ (number : ℕ) (c : List Float) (l : Lent) where
  abbrev rows : List Kept
  rows = set_of l.floats l.words

  abbrev own : Result Answer Refusal
  own = own_of (head_of l.floats l.words) c

  -- what is told early, by what was tested
  abbrev Early : Result (Unit {0}) Refusal → Type 0
  Early answer = answer ≡ told (early size is_bad rows number c) done

  abbrev there : Bool
  there = is_some (position (named number) rows)

  early_by : (b t full : Bool) → is_curve c ≡ b → there ≡ t → leb size (length rows) ≡ full → Early (told (first_of (add_refusals (not b) t full)) done)
  early_by b t full e g h = rw (← e, ← g, ← h, has_position (named number) rows)

  pub early_bad : is_curve c ≡ false → Early (Err Curve)
  unfolding add_refusals first_of
  early_bad e = early_by false there (leb size (length rows)) e refl refl

  pub early_there : is_curve c ≡ true → there ≡ true → Early (Err NumberPresent)
  unfolding add_refusals first_of
  early_there e g = early_by true true (leb size (length rows)) e g refl

  pub early_full : is_curve c ≡ true → there ≡ false → size ≤ count_of l.words → Early (Err SetFull)
  unfolding add_refusals first_of
  early_full e g h =
      let long = length-set l.floats l.words in
      early_by true false true e g (le-leb size (length rows) (omega arith))

  pub early_none : is_curve c ≡ true → there ≡ false → count_of l.words < size → Early done
  unfolding add_refusals first_of
  early_none e g h =
      let long = length-set l.floats l.words in
      early_by true false false e g (lt-leb size (length rows) (omega arith))

  -- what a call answers, and what it leaves
  abbrev Comes : Result (Unit {0}) Refusal → Lent → Type 0
  Comes answer left = (answer ≡ answer_to (add number c) l) × (left ≡ changed_by (add number c) l)

  comes : (x : Result Answer Refusal) → add_result l.floats l.words number c ≡ x
      → Comes (add_told x) (lent (either l.floats (λ a. (with_row number c a l).floats) x) (either l.words (λ a. (with_best (with_row number c a l)).words) x))
  unfolding add_answer add_floats add_words
  comes x e = rw e (refl, refl)

  pub room : done ≡ told (early size is_bad rows number c) done → (count_of l.words < size) × (length c ≡ floats)
  room e =
      let passes = (told-ok (early size is_bad rows number c) tt tt (sym e)).0 in
      let long = length-set l.floats l.words in
      let below = not_full (is_bad c) (has (named number) rows) (length rows) passes in
      (omega arith, is_long c (has (named number) rows) (leb size (length rows)) passes)

  pub add_early : (r : Refusal) → Err r ≡ told (early size is_bad rows number c) done → Comes (Err r) l
  unfolding add_result adding
  add_early r e = comes (Err r) (go (told-err (early size is_bad rows number c) tt r (sym e)))
    where
      go : early size is_bad rows number c ≡ Some r → add_result l.floats l.words number c ≡ Err r
      go e = rw e

  -- past it the curve's own answer decides
  by_own : (x : Result Answer Refusal) → done ≡ told (early size is_bad rows number c) done → x ≡ own → add_result l.floats l.words number c ≡ x
  unfolding add_result adding
  by_own x e h = rw (told-ok (early size is_bad rows number c) tt tt (sym e)).0 (sym h)

  pub add-refused : (r : Refusal) → done ≡ told (early size is_bad rows number c) done → Err r ≡ own → Comes (Err r) l
  add-refused r e h = comes (Err r) (by_own (Err r) e h)

  pub add_done : (a : Answer) → done ≡ told (early size is_bad rows number c) done → Ok a ≡ own → Comes done (with_best (with_row number c a l))
  add_done a e h = comes (Ok a) (by_own (Ok a) e h)

-- ---- remove

-- what was looked for, by what `ok_or` made of it
pub found_by : {A : Type 0} (o : Option A) (r : Refusal) (a : A) → Ok a ≡ ok_or o r → Some a ≡ o
found_by None r a e = absurd (cc)
found_by (Some b) r a e = cc

pub missing_by : {A : Type 0} (o : Option A) (r s : Refusal) → Err s ≡ ok_or o r → (s ≡ r) × (None ≡ o)
missing_by None r s e = (cc, refl)
missing_by (Some b) r s e = absurd (cc)

module _ (number : ℕ) (l : Lent) where
  abbrev removed : Result (Unit {0}) Refusal → Lent → Type 0
  removed answer left = (answer ≡ answer_to (remove number) l) × (left ≡ changed_by (remove number) l)

  abbrev at : ℕ
  at = position_or_len (named number) (set_of l.floats l.words)

  is_there : (b : Bool) → has (named number) (set_of l.floats l.words) ≡ b
      → removed (cond b done (Err NumberMissing)) (cond b (with_best (without_row at l)) l)
  unfolding remove_answer remove_floats remove_words
  is_there true e = rw e (refl, refl)
  is_there false e = rw e (refl, refl)

  pub remove_done : (p : ℕ) → Some p ≡ position (named number) (set_of l.floats l.words) → (p < count_of l.words) × removed done (with_best (without_row p l))
  remove_done p e = go (has (named number) (set_of l.floats l.words)) refl e
    where
      go : (b : Bool) → has (named number) (set_of l.floats l.words) ≡ b → Some p ≡ cond b (Some at) None → (p < count_of l.words) × removed done (with_best (without_row p l))
      go true h e =
          let same : p ≡ at = cc in
          let below = ltb-true at (length (set_of l.floats l.words)) h in
          let long = length-set l.floats l.words in
          (omega arith, rw same (is_there true h))
      go false h e = absurd (cc)

  pub remove-refused : None ≡ position (named number) (set_of l.floats l.words) → removed (Err NumberMissing) l
  remove-refused e = go (has (named number) (set_of l.floats l.words)) refl e
    where
      go : (b : Bool) → has (named number) (set_of l.floats l.words) ≡ b → None ≡ cond b (Some at) None → removed (Err NumberMissing) l
      go true h e = absurd (cc)
      go false h e = is_there false h
