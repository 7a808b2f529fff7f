-- What a set holds and answers after every list of adds and removes. Assumes nothing.
use mathlib.Core.Path.{◌≡◌, refl, sym, ap, ap₂, ◌∙◌, subst}
use mathlib.Core.Bool.{Bool, true, false, cond}
use mathlib.Core.List.{List, [], ◌∷◌, ◌++◌, map}
use Prim.Native.Nat.{ℕ, ◌+◌, ◌<◌}
use native.Mathlib.Omega.{arith}
use borrow.Author.Tests.{ltb-true, ltb-false}
use lib.Ieee.{Float}
use lib.ListN.{length, get_or}
use Rattle.std.specs.Prelude.{Option, Some, None, Result, Ok, Err}
use Rattle.std.specs.List.{position_or_len}
use Rattle.limits.specs.declared.refusal.Refusal.{Refusal}
use Rattle.limits.specs.declared.refusal.Refusal.TheVariants.{NumberMissing}
use Rattle.limits.specs.Refused.{told, told_by}
use Rattle.bisection.specs.Below.{best_below}
use Rattle.curve.specs.Layout.{floats}
use Rattle.arrays.specs.Rows.{drop_first}
use Rattle.arrays.proofs.Cut.{without_position}
use Rattle.curve_set.specs.Kept.{row_of, this_rule, either, named, has, Change, add, remove, adding, after, is_taken, changed, present}
use Rattle.curve_set.specs.Layout.{size, head_of, floats_opened, words_opened, count_of, counted, Answer, Kept, kind_of, answer_floats, set_of, floats_put, words_put, floats_without, words_without}
use Rattle.curve_set.specs.declared.layout.Head.{Head}
use Rattle.curve_set.specs.Best.{best_of, best_word, refreshed}
use Rattle.curve_set.specs.Set.{open_refusal, open_answer, open_floats, open_words, own_of, is_bad, add_told, add_result, add_answer, add_floats, add_words, remove_answer, remove_floats, remove_words, shown_at, nearest_in}
use Rattle.curve_set.specs.Calls.{Sized, view_of, opened, answer_to, changed_by, changes, answers, is_done, accepted, present_after, nearest_afresh, as_nearest}
use Rattle.curve_set.specs.Lent.{Lent, lent}
use Rattle.curve_set.proofs.Afresh.{Worked, none, drop_none, added, change_worked, worked_present, worked_one}
use Rattle.curve_set.proofs.Edit.{refreshed-view, set-opened, edit_append, edit_remove}
use Rattle.curve_set.proofs.OverList.{long, best_shows}
use Rattle.curve_set.proofs.Told.{done, not_full, passes-add}
use Rattle.curve_set.proofs.Read.{length-set}

abbrev pub head_in : Lent → Head
head_in l = head_of l.floats l.words

-- ---- each call's effect on what is held

-- the kept place is that of the nearest
unfoldable pub Fresh : Lent → Type 0
Fresh l = get_or l.words 1 0 ≡ best_word (view_of l)

-- k holds the rows s under the head of l, and keeps its place fresh where l does
abbrev After : List Kept → Lent → Lent → Type 0
After s l k = (view_of k ≡ s) × (head_in k ≡ head_in l) × Sized k × (Fresh l → Fresh k)

settled : (F : List Float) (W : List ℕ) (s : List Kept) (l : Lent) → (set_of F W ≡ s) × (head_of F W ≡ head_in l) × Sized (lent F W) → After s l (lent F (refreshed F W))
unfolding Fresh
settled F W s l h =
    let v = refreshed-view F W (omega (arith, h.2.words)) in
    (v.0 ∙ h.0, v.1 ∙ h.1, record { floats = h.2.floats; words = v.3 ∙ h.2.words }, λ _. v.2 ∙ ap best_word (sym v.0))

module _ (f : List Float) (w : List ℕ) (z : Sized (lent f w)) where
  abbrev own : List Float → Result Answer Refusal
  own = own_of (head_of f w)

  add-view : (n : ℕ) (c : List Float) → After (after size is_bad own (add n c) (set_of f w)) (lent f w) (lent (add_floats f w n c) (add_words f w n c))
  unfolding add_floats add_words add_result after
  add-view n c = go (adding size is_bad own (set_of f w) n c) refl
    where
      room : (a : Answer) → adding size is_bad own (set_of f w) n c ≡ Ok a → (count_of w < size) × (length c ≡ floats)
      room a e =
          let t = (added size is_bad own (set_of f w) n c a e).0 in
          (subst (λ (k : ℕ). k < size) (length-set f w) (not_full (is_bad c) (has (named n) (set_of f w)) (length (set_of f w)) t), long (head_of f w) c (passes-add (is_bad c) _ _ t).0)

      go : (y : Result Answer Refusal) → adding size is_bad own (set_of f w) n c ≡ y
          → After (either (set_of f w) (λ a. set_of f w ++ row_of n this_rule c a ∷ []) y) (lent f w)
          (lent (either f (λ a. floats_put f (count_of w) c (answer_floats a)) y) (either w (λ a. refreshed (floats_put f (count_of w) c (answer_floats a)) (counted (words_put w (count_of w) n (kind_of a)) (count_of w + 1))) y))
      go (Err r) e = (refl, refl, z, λ h. h)
      go (Ok a) e = let r = room a e in settled _ _ _ _ (edit_append f w z n c a r.0 r.1)

  remove-view : (n : ℕ) → After (after size is_bad own (remove n) (set_of f w)) (lent f w) (lent (remove_floats f w n) (remove_words f w n))
  unfolding remove_floats remove_words after
  remove-view n = go (has (named n) (set_of f w)) refl
    where
      at : ℕ
      at = position_or_len (named n) (set_of f w)

      go : (b : Bool) → has (named n) (set_of f w) ≡ b
          → After (drop_first (named n) (set_of f w)) (lent f w) (lent (cond b (floats_without f at (count_of w)) f) (cond b (refreshed (floats_without f at (count_of w)) (words_without w at (count_of w))) w))
      go true e =
          let i = edit_remove f w z at (subst (λ (k : ℕ). at < k) (length-set f w) (ltb-true _ _ e)) in
          settled _ _ _ _ (i.0 ∙ without_position (named n) (set_of f w), i.1, i.2)
      go false e = (sym (drop_none (named n) (set_of f w) (ltb-false _ _ e)), refl, z, λ h. h)

pub change_view : (c : Change (List Float)) (l : Lent) → Sized l → After (after size is_bad (own_of (head_in l)) c (view_of l)) l (changed_by c l)
change_view (add n p) l z = add-view l.floats l.words z n p
change_view (remove n) l z = remove-view l.floats l.words z n

-- an answer depends on the head and on what is held alone
answer_by : Head → Change (List Float) → List Kept → Result (Unit {0}) Refusal
answer_by h (add n c) s = add_told (adding size is_bad (own_of h) s n c)
answer_by h (remove n) s = cond (has (named n) s) done (Err NumberMissing)

answer_is : (c : Change (List Float)) (l : Lent) → answer_to c l ≡ answer_by (head_in l) c (view_of l)
unfolding add_answer add_result remove_answer answer_by
answer_is (add n c) l = refl
answer_is (remove n) l = refl

-- "accepted" is where the call is done
taken_is : (h : Head) (c : Change (List Float)) (s : List Kept) → is_done (answer_by h c s) ≡ is_taken size is_bad (own_of h) c s
unfolding answer_by is_taken
taken_is h (add n c) s = go (adding size is_bad (own_of h) s n c)
  where
    go : (x : Result Answer Refusal) → is_done (add_told x) ≡ either false (λ a. true) x
    go (Err r) = refl
    go (Ok a) = refl
taken_is h (remove n) s = go (has (named n) s)
  where
    go : (b : Bool) → is_done (cond b done (Err NumberMissing)) ≡ b
    go true = refl
    go false = refl

-- ---- a refused call changes nothing, whatever the lists hold

pub refused_stays : (c : Change (List Float)) (l : Lent) (k : Refusal) → answer_to c l ≡ Err k → changed_by c l ≡ l
unfolding add_answer add_floats add_words remove_answer remove_floats remove_words
refused_stays (add n c) l k e = go (add_result l.floats l.words n c) e
  where
    go : (x : Result Answer Refusal) → add_told x ≡ Err k
        → lent (either l.floats (λ a. floats_put l.floats (count_of l.words) c (answer_floats a)) x) (either l.words (λ a. refreshed (floats_put l.floats (count_of l.words) c (answer_floats a)) (counted (words_put l.words (count_of l.words) n (kind_of a)) (count_of l.words + 1))) x) ≡ l
    go (Err r) e = refl
    go (Ok a) e = absurd (cc)
refused_stays (remove n) l k e = go (has (named n) (view_of l)) e
  where
    at : ℕ
    at = position_or_len (named n) (view_of l)

    go : (b : Bool) → cond b done (Err NumberMissing) ≡ Err k
        → lent (cond b (floats_without l.floats at (count_of l.words)) l.floats) (cond b (refreshed (floats_without l.floats at (count_of l.words)) (words_without l.words at (count_of l.words))) l.words) ≡ l
    go true e = absurd (cc)
    go false e = refl

pub refused_open_stays : (h : Head) (l : Lent) (k : Refusal) → open_answer h ≡ Err k → opened h l ≡ l
unfolding open_answer open_floats open_words
refused_open_stays h l k e = go (open_refusal h) e
  where
    go : (o : Option Refusal) → told o done ≡ Err k → lent (told_by (λ _. l.floats) o (floats_opened l.floats h)) (told_by (λ _. l.words) o (words_opened l.words h)) ≡ l
    go None e = absurd (cc)
    go (Some r) e = refl

-- ---- lists of calls, under a head that an open does not refuse

module _ (h : Head) (ok : open_refusal h ≡ None) where
  -- l holds the curves p, each with its own answer, and shows the nearest
  abbrev Keeps : Lent → List (ℕ × List Float) → Type 0
  Keeps l p = Worked is_bad (own_of h) (view_of l) p × (head_in l ≡ h) × Sized l × Fresh l

  change_keeps : (c : Change (List Float)) (l : Lent) (p : List (ℕ × List Float)) → Keeps l p → Keeps (changed_by c l) (cond (is_done (answer_to c l)) (changed c p) p)
  change_keeps c l p k =
      let v = change_view c l k.2 in
      let same : answer_to c l ≡ answer_by h c (view_of l) = answer_is c l ∙ ap (λ x. answer_by x c (view_of l)) k.1 in
      let rows : view_of (changed_by c l) ≡ after size is_bad (own_of h) c (view_of l) = v.0 ∙ ap (λ x. after size is_bad (own_of x) c (view_of l)) k.1 in (
        rw (rows, same, taken_is h c (view_of l)) (change_worked size is_bad (own_of h) c (view_of l) p k.0),
        v.1 ∙ k.1,
        v.2,
        v.3 k.3,
      )

  changes-keep : (cs : List (Change (List Float))) (l : Lent) (p : List (ℕ × List Float)) → Keeps l p → Keeps (changes cs l) (present (accepted cs l) p)
  unfolding changes accepted present
  changes-keep [] l p k = k
  changes-keep (c ∷ cs) l p k = rw (go (is_done (answer_to c l)) (accepted cs (changed_by c l))) (changes-keep cs (changed_by c l) _ (change_keeps c l p k))
    where
      go : (b : Bool) (rest : List (Change (List Float))) → present (cond b (c ∷ rest) rest) p ≡ present rest (cond b (changed c p) p)
      go true rest = refl
      go false rest = refl

  opened_is : (l : Lent) → opened h l ≡ lent (floats_opened l.floats h) (words_opened l.words h)
  unfolding open_floats open_words
  opened_is l = rw ok

  opened_keeps : (l : Lent) → Sized l → Keeps (opened h l) []
  unfolding Fresh best_word best_of best_below
  opened_keeps l z =
      let o = set-opened l.floats l.words z h in
      subst (λ x. Keeps x []) (sym (opened_is l)) (subst (λ s. Worked is_bad (own_of h) s []) (sym o.0) none, o.1, o.3, o.2 ∙ sym (ap best_word o.0))

  module _ (l : Lent) (z : Sized l) (cs : List (Change (List Float))) where
    kept-after : Keeps (changes cs (opened h l)) (present_after cs (opened h l))
    unfolding present_after
    kept-after = changes-keep cs (opened h l) [] (opened_keeps l z)

    -- What is present is what the accepted calls say, in the order of adding.
    pub present-kept : map (λ r. (r.number, r.piece)) (view_of (changes cs (opened h l))) ≡ present_after cs (opened h l)
    present-kept = worked_present kept-after.0

    -- Each has the answer of `nearest` over it alone, and the mark of this rule.
    pub own_kept : Worked is_bad (own_of h) (view_of (changes cs (opened h l))) (present_after cs (opened h l))
    own_kept = kept-after.0

    -- "the kept answer is the one worked out afresh over what is present"
    pub nearest-kept : let k = changes cs (opened h l) in as_nearest (nearest_in k.floats k.words) ≡ nearest_afresh h (present_after cs (opened h l))
    unfolding nearest_in Fresh best_word
    nearest-kept = ap (λ (q : ℕ). as_nearest (shown_at q (view_of (changes cs (opened h l))))) kept-after.3 ∙ best_shows h ok kept-after.0

-- ---- what stood in the lists before they were opened

-- they hold the same under the same head
abbrev Alike : Lent → Lent → Type 0
Alike l m = (view_of l ≡ view_of m) × (head_in l ≡ head_in m) × (Sized l × Fresh l) × (Sized m × Fresh m)

alike_changed : (c : Change (List Float)) (l m : Lent) → Alike l m → (answer_to c l ≡ answer_to c m) × Alike (changed_by c l) (changed_by c m)
alike_changed c l m a =
    let v = change_view c l a.2.0 in
    let u = change_view c m a.3.0 in (
      answer_is c l ∙ ap₂ (λ h s. answer_by h c s) a.1 a.0 ∙ sym (answer_is c m),
      (v.0 ∙ ap₂ (λ h s. after size is_bad (own_of h) c s) a.1 a.0 ∙ sym u.0, v.1 ∙ a.1 ∙ sym u.1, (v.2, v.3 a.2.1), (u.2, u.3 a.3.1)),
    )

alike_changes : (cs : List (Change (List Float))) (l m : Lent) → Alike l m → (answers cs l ≡ answers cs m) × Alike (changes cs l) (changes cs m)
unfolding answers changes
alike_changes [] l m a = (refl, a)
alike_changes (c ∷ cs) l m a =
    let next = alike_changed c l m a in
    let rest = alike_changes cs (changed_by c l) (changed_by c m) next.1 in
    (ap₂ (λ x xs. x ∷ xs) next.0 rest.0, rest.1)

-- No answer depends on it.
pub former_content : (h : Head) → open_refusal h ≡ None → (l m : Lent) → Sized l → Sized m → (cs : List (Change (List Float)))
    → let k = changes cs (opened h l) in
    let j = changes cs (opened h m) in
    (answers cs (opened h l) ≡ answers cs (opened h m)) × (nearest_in k.floats k.words ≡ nearest_in j.floats j.words)
unfolding nearest_in Fresh
former_content h ok l m z y cs =
    let o = opened_keeps h ok l z in
    let p = opened_keeps h ok m y in
    let a = alike_changes cs (opened h l) (opened h m) (worked_one o.0 p.0, o.1 ∙ sym p.1, (o.2, o.3), (p.2, p.3)) in
    (a.0, ap₂ shown_at (a.1.2.1 ∙ ap best_word a.1.0 ∙ sym a.1.3.1) a.1.0)
