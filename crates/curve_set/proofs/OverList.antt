-- The nearest of a set's rows is what `nearest` answers over the list of their curves. Assumes nothing.
use mathlib.Core.Path.{◌≡◌, refl, sym, ap, ap₂, ◌∙◌}
use mathlib.Core.Bool.{Bool, true, false, not}
use mathlib.Core.List.{List, [], ◌++◌}
use mathlib.Core.Option as math
use Prim.Native.Nat.{ℕ, zero, suc, ◌+◌, ◌*◌, ◌/◌, ◌<◌}
use native.Mathlib.Nat.{zero-mul, suc-mul, le_of_suc-le-suc, not-suc-le-zero}
use native.Mathlib.Omega.{arith}
use lib.Ieee.{Float}
use lib.ListN.{length, get_or, take, drop, length-append}
use lib.Seq.{take_at, drop_at}
use Rattle.std.specs.Prelude.{Option, Some, None, Ok, Err}
use Rattle.limits.specs.declared.refusal.Refusal.{Refusal}
use Rattle.limits.specs.Refused.{told}
use Rattle.bisection.specs.Below.{or_else, at_or}
use Rattle.bisection.proofs.Below.{first_none}
use Rattle.curve.specs.Curve.{is_curve}
use Rattle.curve.specs.Layout.{floats, curve_at}
use Rattle.curve.proofs.Records.{curve_length}
use Rattle.frame.specs.declared.frame.Aim.{Aim}
use Rattle.frame.specs.Frame.{aimed_of}
use Rattle.leaf.specs.Record.{flips_of}
use Rattle.nearest.specs.Nearest.{is_refused, among, as_number, answer_of, nearest_aimed, nearest_of}
use Rattle.nearest.specs.Nearest as nearest
use Rattle.nearest.proofs.OneMore.{same_answers, renumbered, alone, whole-list}
use Rattle.arrays.proofs.Cut.{drop_row}
use Rattle.curve_set.specs.Layout.{Answer, Kept}
use Rattle.curve_set.specs.declared.layout.Head.{Head}
use Rattle.curve_set.specs.Best.{Nearest, as_curve, no_row, answer_at, best_of, word_of}
use Rattle.curve_set.specs.Set.{open_refusal, nearest_along, own_answer_of, own_of, is_bad, shown_by, shown_at}
use Rattle.curve_set.specs.Calls.{list_of, numbered, nearest_afresh, as_nearest}
use Rattle.curve_set.proofs.Afresh.{Worked, none, more}

-- ---- the rows

abbrev nothing : ℕ × List Float
nothing = (0, [])

module _ (h : Head) where
  abbrev Rows : List Kept → List (ℕ × List Float) → Type 0
  Rows s l = Worked is_bad (own_of h) s l

  as_many : {s : List Kept} {l : List (ℕ × List Float)} → Rows s l → length s ≡ length l
  as_many none = refl
  as_many (more b e r) = ap suc (as_many r)

  number_in : {s : List Kept} {l : List (ℕ × List Float)} → Rows s l → (k : ℕ) → (get_or s k no_row).number ≡ (get_or l k nothing).0
  number_in none k = refl
  number_in (more b e r) zero = refl
  number_in (more b e r) (suc k) = number_in r k

  own_in : {s : List Kept} {l : List (ℕ × List Float)} → Rows s l → (k : ℕ) → k < length l → own_of h (get_or l k nothing).1 ≡ Ok (get_or s k no_row).answer
  own_in none k less = absurd (not-suc-le-zero less)
  own_in (more b e r) zero less = e
  own_in (more b e r) (suc k) less = own_in r k (le_of_suc-le-suc less)

  pub long : (c : List Float) → is_bad c ≡ false → length c ≡ floats
  long c e = curve_length c (go (is_curve c) e)
    where
      go : (b : Bool) → not b ≡ false → b ≡ true
      go true e = refl
      go false e = sym e

  long_in : {s : List Kept} {l : List (ℕ × List Float)} → Rows s l → (k : ℕ) → k < length l → length (get_or l k nothing).1 ≡ floats
  long_in none k less = absurd (not-suc-le-zero less)
  long_in (more {p = p} b e r) zero less = long p b
  long_in (more b e r) (suc k) less = long_in r k (le_of_suc-le-suc less)

  -- ---- the list of their curves

  list_length : {s : List Kept} {l : List (ℕ × List Float)} → Rows s l → length (list_of l) ≡ length l * floats
  unfolding list_of
  list_length none = refl
  list_length (more {p = p} {l = l} b e r) = length-append p (list_of l) ∙ ap₂ (λ (m n : ℕ). m + n) (long p b) (list_length r) ∙ next (length l)
    where
      next : (n : ℕ) → floats + n * floats ≡ suc n * floats
      next n = omega (arith, suc-mul n floats)

  curve_in : {s : List Kept} {l : List (ℕ × List Float)} → Rows s l → (k : ℕ) → k < length l → curve_at (list_of l) k ≡ (get_or l k nothing).1
  unfolding list_of curve_at
  curve_in none k less = absurd (not-suc-le-zero less)
  curve_in (more {p = p} {l = l} b e r) zero less = ap (λ (n : ℕ). take floats (drop n (p ++ list_of l))) (zero-mul floats) ∙ take_at p (list_of l) floats (long p b)
  curve_in (more {p = p} {l = l} b e r) (suc k) less =
      ap (take floats) (drop_row (p ++ list_of l) k floats ∙ ap (drop (k * floats)) (drop_at p (list_of l) floats (long p b))) ∙ curve_in r k (le_of_suc-le-suc less)

  -- ---- along a ray that an open does not refuse

  module _ (ok : open_refusal h ≡ None) where
    abbrev flip : Bool
    flip = flips_of h.reverse h.object_to_world

    abbrev aimed : Option Aim
    aimed = aimed_of h.world_to_object h.ray

    -- `nearest` over a list of n whole curves
    nearest-whole : (l : List Float) (n : ℕ) → length l ≡ n * floats → nearest_along h l ≡ nearest_aimed flip aimed l
    unfolding nearest_along nearest_of
    nearest-whole l n e = ap (λ (o : Option Refusal). told o (nearest_aimed flip aimed l)) (whole-list l n h.object_to_world h.world_to_object h.ray e ∙ ok)

    answer_by_lem : (x : Nearest) (a : Answer) (k : ℕ) → own_answer_of x ≡ Ok a → as_number k x ≡ as_curve k a
    answer_by_lem (Ok (Some hit)) a k e = let same : Some hit.0 ≡ a = cc in ap (as_curve k) same
    answer_by_lem (Ok None) a k e = let same : None ≡ a = cc in ap (as_curve k) same
    answer_by_lem (Err reason) a k e = absurd (cc)

    same_answer : {s : List Kept} {l : List (ℕ × List Float)} → Rows s l → (k : ℕ) → k < length l → nearest.answer_at flip aimed (list_of l) k ≡ answer_at s k
    unfolding nearest.answer_at answer_at
    same_answer {s} {l} r k less =
        let c = (get_or l k nothing).1 in
        let e = long_in r k less in
        ap (answer_of flip aimed k) (curve_in r k less)
        ∙ sym (renumbered flip aimed 0 k c)
        ∙ ap (as_number k) (sym (nearest-whole c 1 (omega arith) ∙ alone flip aimed c e))
        ∙ answer_by_lem (nearest_along h c) (get_or s k no_row).answer k (own_in r k less)

    counted : (l : List Float) (n : ℕ) → length l / floats ≡ n → nearest_aimed flip aimed l ≡ among (nearest.answer_at flip aimed l) n
    unfolding nearest_aimed
    counted l n e = ap (among (nearest.answer_at flip aimed l)) e

    over-list : {s : List Kept} {l : List (ℕ × List Float)} → Rows s l → nearest_along h (list_of l) ≡ among (answer_at s) (length s)
    over-list {s} {l} r =
        let e = list_length r in
        let count : length (list_of l) / floats ≡ length l = omega arith in
        nearest-whole (list_of l) (length l) e
        ∙ counted (list_of l) (length l) count
        ∙ same_answers _ _ (length l) (same_answer r)
        ∙ ap (among (answer_at s)) (sym (as_many r))

    -- no row is a refusal
    among_best : (s : List Kept) → among (answer_at s) (length s) ≡ at_or (answer_at s) (Ok None) (best_of s)
    unfolding among best_of
    among_best s = ap (λ o. at_or (answer_at s) (Ok None) (or_else o (best_of s))) (first_none (length s) (λ k. is_refused (answer_at s k)) (λ k less. unfold answer_at in go k (get_or s k no_row).answer))
      where
        go : (k : ℕ) (a : Answer) → is_refused (as_curve k a) ≡ false
        go k None = refl
        go k (Some r) = refl

    -- what the place of the nearest shows, each curve under its number
    pub best_shows : {s : List Kept} {l : List (ℕ × List Float)} → Rows s l → as_nearest (shown_at (word_of (best_of s)) s) ≡ nearest_afresh h l
    unfolding nearest_afresh nearest_along
    best_shows {s} {l} r = go (best_of s) ∙ ap (numbered l) (sym (over-list r ∙ among_best s))
      where
        row : (k n : ℕ) (a : Answer) → n ≡ (get_or l k nothing).0 → as_nearest (shown_by (record { number = n; mark = 0; piece = []; answer = a })) ≡ numbered l (as_curve k a)
        row k n None e = refl
        row k n (Some x) e = ap (λ (m : ℕ). Ok (Some (x, m))) e

        go : (o : math.Option ℕ) → as_nearest (shown_at (word_of o) s) ≡ numbered l (at_or (answer_at s) (Ok None) o)
        go math.none = refl
        go (math.some k) = unfold answer_at in row k (get_or s k no_row).number (get_or s k no_row).answer (number_in r k)
