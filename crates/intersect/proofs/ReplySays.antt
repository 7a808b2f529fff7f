-- The reply of `intersect`, of a curve in the ray's frame that is cut d times, is right: `decided`. Assumes nothing.
use mathlib.Core.Bool.{Bool, true, false, ◌&&◌, and-eq-true_iff, false≢true, true≢false}
use mathlib.Core.Logic.{◌↔◌, inl, inr}
use mathlib.Core.Option.{Option, none, some}
use mathlib.Core.Path.{◌≡◌, refl, sym, ap, subst, ◌∙◌}
use Prim.Native.Nat.{ℕ, ◌+◌, ◌-◌, ◌^◌, ◌≤◌}
use native.Mathlib.Numerals.{add-one}
use native.Mathlib.Omega.{arith}
use Rattle.std.specs.Prelude.{Some, None, Result, Ok, Err, unwrap_or}
use Rattle.geometry.specs.declared.ray.Ray.{Ray}
use Rattle.limits.specs.declared.refusal.Refusal.{Refusal}
use Rattle.limits.specs.Refused.{number_of}
use Rattle.bisection.specs.Below.{or_else, at_or, first_below, last_below}
use Rattle.bisection.specs.Nodes.{passes_at, first_open, last_open, open_up_to}
use Rattle.bisection.proofs.Below.{IsFirst, IsLast, first_is, last_is}
use Rattle.bisection.proofs.Nodes.{open_iff, open_bound}
use Rattle.curve.specs.declared.curve.Curve.{Curve}
use Rattle.frame.specs.declared.frame.View.{View}
use Rattle.overlap.specs.declared.subcurve.Subcurve.{Subcurve}
use Rattle.overlap.specs.Subcurve.{low_half, high_half}
use Rattle.leaf.specs.declared.leaf.Crossing.{Crossing}
use Rattle.leaf.specs.declared.leaf.Frame.{Frame}
use Rattle.leaf.specs.Leaf.{Leaf, with_frame, leaf_of}
use Rattle.leaf.specs.Record.{record_of}
use Rattle.leaf.proofs.NoFrame.{no_frame}
use Rattle.walk.specs.Leaves.{subcurve_at, thrown, whole_open, open_at, leaf_at}
use Rattle.walk.specs.Rule.{passes, stops}
use Rattle.interaction.specs.declared.SurfaceInteraction.{SurfaceInteraction}
use Rattle.intersect.specs.declared.Intersection.{Intersection}
use Rattle.intersect.specs.declared.Intersection.TheVariants.{Hit, Miss}
use Rattle.intersect.specs.Answer.{met_count}
use Rattle.intersect.specs.Correct.{NoneThrown, OpenAnd, NoneIn, FirstIs, LastIs, StopsWith, SomePasses, NonePasses, Decides, open_pieces, IsHit, IsMiss, Decided}
use Rattle.intersect.specs.Intersect.{hit_with, reply_of, stop_of, last_of, count_of, replied_at}

-- a leaf that stops the walk passes
pub stop_passes : (l : Leaf) → stops l ≡ true → passes l ≡ true
stop_passes (Some m) e = refl
stop_passes None e = e

-- an open leaf that fails the test
pub neither : (a b : Bool) → a && b ≡ false → a ≡ true → b ≡ false
neither true b e o = e
neither false b e o = absurd (false≢true o)

module _ (c : Curve) (v : View) (s : Subcurve) (d : ℕ) where
  -- ---- the stop is the first open leaf that passes with no frame or at distance 0, and the last is the last open leaf that passes

  abbrev open_test : (Leaf → Bool) → ℕ → Bool
  open_test test = passes_at low_half high_half (thrown c v) (λ p. test (leaf_of c v p)) (whole_open c v s) s d

  stop_is_first : FirstIs c v s d (stop_of c v s d)
  unfolding stop_of first_open passes_at open_at leaf_at subcurve_at
  stop_is_first = go (first_below (2 ^ d) (open_test stops)) (first_is (2 ^ d) (open_test stops))
    where
      go : (o : Option ℕ) → IsFirst (2 ^ d) (open_test stops) o → FirstIs c v s d o
      go none h = λ j _ l o. neither _ _ (h j l) o
      go (some i) h = let b = (and-eq-true_iff _ _).0 h.1 in ((h.0, b.0, b.1), λ j _ l o. neither _ _ (h.2 j l) o)

  last_is_last : LastIs c v s d (last_of c v s d)
  unfolding last_of last_open passes_at open_at leaf_at subcurve_at
  last_is_last = go (last_below (2 ^ d) (open_test passes)) (last_is (2 ^ d) (open_test passes))
    where
      go : (o : Option ℕ) → IsLast (2 ^ d) (open_test passes) o → LastIs c v s d o
      go none h = λ j _ l o. neither _ _ (h j l) o
      go (some i) h = let b = (and-eq-true_iff _ _).0 h.1 in ((h.0, b.0, b.1), λ j m l o. neither _ _ (h.2 j m l) o)

  -- ---- which subcurves are open, and how many

  is_open_lem : (k j : ℕ) → (open_at c v s k j ≡ true) ↔ NoneThrown c v s k j
  unfolding open_at subcurve_at
  is_open_lem = open_iff low_half high_half (thrown c v) (whole_open c v s) s

  count_is : count_of c v s d ≡ open_pieces c v s d
  unfolding count_of open_up_to open_at
  count_is = refl

  count_most : count_of c v s d ≤ 2 ^ (d + 1) - 1
  unfolding count_of
  count_most = rw add-one (omega (arith, open_bound low_half high_half (thrown c v) (whole_open c v s) s d (stop_of c v s d)))

  -- for the ray in the object's frame, and whether normals turn
  module _ (ray : Ray) (flip : Bool) where
    -- ---- what each reply says

    -- A hit has the count, and its record is that of the stop or else of the last: of a leaf that is open and passes, and of nothing else.
    -- A miss has the count, and no open leaf passes. A refusal has the reason of the stop, which has no frame.
    abbrev Says : Result Intersection Refusal → Type 0
    Says (Ok (Hit r n)) =
        (n ≡ count_of c v s d) × ((i : ℕ) × (at : Crossing) × (f : Frame) × Decides c v s d i × OpenAnd c v s d passes i × (leaf_at c v s d i ≡ with_frame at f) × (r ≡ record_of c ray flip at f))
    Says (Ok (Miss n)) = (n ≡ count_of c v s d) × NonePasses c v s d
    Says (Err k) = StopsWith c v s d k

    at_stop : (i : ℕ) → stop_of c v s d ≡ some i → OpenAnd c v s d stops i → (l : Leaf) → leaf_at c v s d i ≡ l → Says (reply_of c ray flip (count_of c v s d) l)
    at_stop i e h (Some m) g = go m.frame g
      where
        go : (f : Result Frame Refusal) → leaf_at c v s d i ≡ Some (record { at = m.at; frame = f }) → Says (hit_with c ray flip (count_of c v s d) m.at f)
        go (Ok f) g = (refl, (i, m.at, f, inl e, (h.0, h.1, stop_passes (leaf_at c v s d i) h.2), g, refl))
        go (Err k) g = (i, m.at, e, g)
    at_stop i e h None g = absurd (false≢true (ap stops (sym g) ∙ h.2))

    at_last : (i : ℕ) → stop_of c v s d ≡ none → last_of c v s d ≡ some i → NoneIn c v s d stops 0 (2 ^ d) → OpenAnd c v s d passes i → (l : Leaf) → leaf_at c v s d i ≡ l → Says (reply_of c ray flip (count_of c v s d) l)
    at_last i e e' n h (Some m) g = go m.frame g
      where
        go : (f : Result Frame Refusal) → leaf_at c v s d i ≡ Some (record { at = m.at; frame = f }) → Says (hit_with c ray flip (count_of c v s d) m.at f)
        go (Ok f) g = (refl, (i, m.at, f, inr (e, e'), h, g, refl))
        go (Err k) g = absurd (true≢false (ap stops (sym g) ∙ n i (omega arith) h.0 h.1))
    at_last i e e' n h None g = absurd (false≢true (ap passes (sym g) ∙ h.2))

    says : Says (replied_at c ray flip v s d)
    unfolding replied_at
    says = go (stop_of c v s d) refl stop_is_first (last_of c v s d) refl last_is_last
      where
        go : (o : Option ℕ) → stop_of c v s d ≡ o → FirstIs c v s d o → (p : Option ℕ) → last_of c v s d ≡ p → LastIs c v s d p → Says (at_or (λ i. reply_of c ray flip (count_of c v s d) (leaf_at c v s d i)) (Ok (Miss (count_of c v s d))) (or_else o p))
        go (some i) e h p e' h' = at_stop i e h.0 (leaf_at c v s d i) refl
        go none e h (some i) e' h' = at_last i e e' h h'.0 (leaf_at c v s d i) refl
        go none e h none e' h' = (refl, h')

    -- ---- and which reply it is

    refuses : (k : Refusal) → StopsWith c v s d k → replied_at c ray flip v s d ≡ Err k
    unfolding replied_at
    refuses k h = rw (h.2, h.3)

    refused : (k : Refusal) → replied_at c ray flip v s d ≡ Err k → StopsWith c v s d k
    refused k e = subst Says e says

    pub refusal-number : (k : Refusal) → replied_at c ray flip v s d ≡ Err k → (14 ≤ number_of k) × (number_of k ≤ 16)
    unfolding leaf_at
    refusal-number k e = let h = refused k e in no_frame c v (subcurve_at s d h.0) h.1 k h.3

    hits : ((k : Refusal) → StopsWith c v s d k → ⊥) → SomePasses c v s d → IsHit (replied_at c ray flip v s d)
    hits f p = go (replied_at c ray flip v s d) says
      where
        go : (r : Result Intersection Refusal) → Says r → IsHit r
        go (Ok (Hit r n)) h = (r, n, refl)
        go (Ok (Miss n)) h = absurd (false≢true (sym (h.1 p.0 (omega arith) p.1.0 p.1.1) ∙ p.1.2))
        go (Err k) h = absurd (f k h)

    hit : IsHit (replied_at c ray flip v s d) → SomePasses c v s d
    hit e = let h = subst Says e.2 says in (h.1.0, h.1.4)

    misses : ((k : Refusal) → StopsWith c v s d k → ⊥) → NonePasses c v s d → IsMiss (replied_at c ray flip v s d)
    misses f p = go (replied_at c ray flip v s d) says
      where
        go : (r : Result Intersection Refusal) → Says r → IsMiss r
        go (Ok (Hit r n)) h = let o = h.1.4 in absurd (false≢true (sym (p h.1.0 (omega arith) o.0 o.1) ∙ o.2))
        go (Ok (Miss n)) h = (n, refl)
        go (Err k) h = absurd (f k h)

    missed : IsMiss (replied_at c ray flip v s d) → NonePasses c v s d
    missed e = (subst Says e.1 says).1

    recorded : (at : SurfaceInteraction) (n : ℕ) → replied_at c ray flip v s d ≡ Ok (Hit at n)
        → (i : ℕ) × (x : Crossing) × (f : Frame) × Decides c v s d i × (leaf_at c v s d i ≡ with_frame x f) × (at ≡ record_of c ray flip x f)
    recorded at n e = let h = (subst Says e says).1 in (h.0, h.1, h.2, h.3, h.5, h.6)

    counted : (n : ℕ) → met_count (replied_at c ray flip v s d) ≡ Some n → n ≡ count_of c v s d
    counted n = go (replied_at c ray flip v s d) says
      where
        go : (r : Result Intersection Refusal) → Says r → met_count r ≡ Some n → n ≡ count_of c v s d
        go (Ok (Hit r m)) h e = ap (λ o. unwrap_or o 0) (sym e) ∙ h.0
        go (Ok (Miss m)) h e = ap (λ o. unwrap_or o 0) (sym e) ∙ h.0
        go (Err k) h e = cc

    pub decided : Decided c ray flip v s d (replied_at c ray flip v s d)
    decided = record {
      open_is = is_open_lem;
      stop_is = stop_is_first;
      last_is = last_is_last;
      refuses = λ k. (refused k, refuses k);
      number = refusal-number;
      hits = λ f. (hit, hits f);
      misses = λ f. (missed, misses f);
      recorded = recorded;
      counted = λ n e. counted n e ∙ count_is;
      count_most = λ n e. rw (counted n e) count_most;
    }
