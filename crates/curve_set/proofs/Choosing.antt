-- The chain that chooses the nearest anew: what it comes to over the first n places. Assumes nothing.
use mathlib.Core.Path.{◌≡◌, refl, sym, ap, ◌∙◌}
use mathlib.Core.Bool.{Bool, true, false, cond}
use mathlib.Core.List.{List, [], ◌∷◌, ◌++◌}
use mathlib.Core.Option as math
use Prim.Native.Nat.{ℕ, zero, suc, ◌+◌, ◌≤◌, ◌<◌}
use native.Mathlib.Numerals.{add-one, unary_clauses}
use native.Mathlib.Omega.{arith}
use lib.Ieee.{Float, lt}
use lib.ListN.{length}
use Rattle.std.specs.Prelude.{Option, Some, None, IfSome, option_map}
use Rattle.std.specs.List.{fold, filter, range_with_len}
use Rattle.std.proofs.iter.Rest.{range_with_len_last}
use Rattle.std.proofs.lemmas.List.Elements.{filter-append}
use Rattle.std.proofs.lemmas.List.Sums.{fold-append}
use Rattle.bisection.specs.Below.{better, best_below}
use Rattle.nearest.specs.Nearest.{is_hit, distance_in}
use Rattle.curve_set.specs.Layout.{Kept, count_of, set_of}
use Rattle.curve_set.specs.Best.{answer_at, place_word, word_of, best_of, best_word, is_hit_at, distance_at, nearer}
use Rattle.curve_set.proofs.Read.{hit_at, distance-at}

-- a place below n stays one
pub nearer_within : (n : ℕ) (best : Option (ℕ × Float)) (p : ℕ) (d : Float) → IfSome best (λ x. x.0 < n) → p < n → IfSome (nearer best p d) (λ x. x.0 < n)
nearer_within n None p d h l = l
nearer_within n (Some best) p d h l = go (lt d best.1)
  where
    go : (b : Bool) → IfSome (cond b (Some (p, d)) (Some best)) (λ x. x.0 < n)
    go true = l
    go false = h

pub place_within : (n : ℕ) (place : Option ℕ) (best : Option (ℕ × Float)) → place ≡ option_map (λ x. x.0) best → IfSome best (λ x. x.0 < n) → IfSome place (λ p. p < n)
place_within n place None e h = rw e tt
place_within n place (Some best) e h = rw e h

module _ (s : List Kept) where
  abbrev pub beats : ℕ → ℕ → Bool
  beats j i = lt (distance_in (answer_at s j)) (distance_in (answer_at s i))

  abbrev pub hits : ℕ → Bool
  hits k = is_hit (answer_at s k)

  -- a place with its distance
  abbrev pub at_distance : math.Option ℕ → Option (ℕ × Float)
  at_distance math.none = None
  at_distance (math.some k) = Some (k, distance_in (answer_at s k))

  -- the best of the first n with its distance
  abbrev pub best_so_far : ℕ → Option (ℕ × Float)
  best_so_far n = at_distance (best_below beats n hits)

  pub best-none : None ≡ best_so_far 0
  unfolding best_below
  best-none = refl

  pub best_miss : (n : ℕ) → hits n ≡ false → best_so_far (n + 1) ≡ best_so_far n
  unfolding best_below
  best_miss n h = rw (add-one n, h)

  pub best_hit : (n : ℕ) → hits n ≡ true → best_so_far (n + 1) ≡ nearer (best_so_far n) n (distance_in (answer_at s n))
  unfolding best_below
  best_hit n h = rw (add-one n, h) (go (best_below beats n hits))
    where
      chosen : (k : ℕ) (c : Bool) → beats n k ≡ c → at_distance (better beats true n (math.some k)) ≡ cond c (Some (n, distance_in (answer_at s n))) (Some (k, distance_in (answer_at s k)))
      chosen k true e = rw e
      chosen k false e = rw e

      go : (o : math.Option ℕ) → at_distance (better beats true n o) ≡ nearer (at_distance o) n (distance_in (answer_at s n))
      go math.none = refl
      go (math.some k) = chosen k (beats n k) refl

  -- the word of the place that is left
  pub best_word_is : (place : Option ℕ) (best : Option (ℕ × Float)) (n : ℕ) → n ≡ length s → best ≡ best_so_far n → place ≡ option_map (λ x. x.0) best → place_word place ≡ best_word s
  unfolding best_word best_of
  best_word_is place best n all h e = rw (e, h, all) (go (best_below beats (length s) hits))
    where
      go : (o : math.Option ℕ) → place_word (option_map (λ x. x.0) (at_distance o)) ≡ word_of o
      go math.none = refl
      go (math.some k) = refl

  -- it is one of the first n
  pub best_within : (m n : ℕ) → n ≤ m → IfSome (best_so_far n) (λ x. x.0 < m)
  best_within m zero l = rw (← best-none) tt
  best_within m (suc n) l = rw (← add-one n) (go (best_within m n (omega arith)) (hits n) refl)
    where
      go : IfSome (best_so_far n) (λ x. x.0 < m) → (b : Bool) → hits n ≡ b → IfSome (best_so_far (n + 1)) (λ x. x.0 < m)
      go before true e = rw (best_hit n e) (nearer_within m (best_so_far n) n (distance_in (answer_at s n)) before (omega arith))
      go before false e = rw (best_miss n e) before

range_more : (n : ℕ) → range_with_len 0 (suc n) ≡ range_with_len 0 n ++ n ∷ []
range_more n = simp unary_clauses at (range_with_len_last 0 (suc n) (omega arith))

module _ (f : List Float) (w : List ℕ) where
  abbrev pub nearer_at : Option (ℕ × Float) → ℕ → Option (ℕ × Float)
  nearer_at best p = nearer best p (distance_at f p)

  -- one place more
  place_more : (n : ℕ) → n < count_of w → fold nearer_at (best_so_far (set_of f w) n) (filter (is_hit_at w) (n ∷ [])) ≡ best_so_far (set_of f w) (n + 1)
  place_more n h = go (is_hit_at w n) refl
    where
      go : (b : Bool) → is_hit_at w n ≡ b → fold nearer_at (best_so_far (set_of f w) n) (filter (is_hit_at w) (n ∷ [])) ≡ best_so_far (set_of f w) (n + 1)
      go true e = rw (e, distance-at f w n h e) (sym (best_hit (set_of f w) n (sym (hit_at f w n h) ∙ e)))
      go false e = rw e (sym (best_miss (set_of f w) n (sym (hit_at f w n h) ∙ e)))

  pub best_chained : (n : ℕ) → n ≤ count_of w → fold nearer_at None (filter (is_hit_at w) (range_with_len 0 n)) ≡ best_so_far (set_of f w) n
  best_chained zero h = best-none (set_of f w)
  best_chained (suc n) h =
      ap (λ l. fold nearer_at None (filter (is_hit_at w) l)) (range_more n)
      ∙ ap (fold nearer_at None) (filter-append (is_hit_at w) (range_with_len 0 n) (n ∷ []))
      ∙ fold-append nearer_at None (filter (is_hit_at w) (range_with_len 0 n)) (filter (is_hit_at w) (n ∷ []))
      ∙ ap (λ b. fold nearer_at b (filter (is_hit_at w) (n ∷ []))) (best_chained n (omega arith))
      ∙ place_more n (omega arith)
      ∙ ap (best_so_far (set_of f w)) (add-one n)
