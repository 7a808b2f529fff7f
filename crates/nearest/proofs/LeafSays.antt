-- One curve: what the leaf that decides says of all of them. Assumes nothing.
use mathlib.Core.Bool.{Bool, true, false, not, ◌&&◌, and-eq-true_iff, false≢true, true≢false}
use mathlib.Core.Logic.{⊎_elim}
use mathlib.Core.Option.{Option, none, some}
use mathlib.Core.Path.{◌≡◌, refl, sym, ap, ◌∙◌}
use Prim.Native.Nat.{ℕ, ◌^◌, ◌<◌}
use lib.Ieee.{Float, is_nan, lt}
use Rattle.std.specs.Prelude.{Some, None, Result, Ok, Err}
use Rattle.limits.specs.declared.refusal.Refusal.{Refusal}
use Rattle.float.proofs.Order.{lt_trans, not_lt_trans, lt_asym, lt_itself}
use Rattle.bisection.specs.Below.{or_else, at_or, first_below, best_below}
use Rattle.bisection.specs.Nodes.{passes_at, first_open, best_open}
use Rattle.bisection.proofs.Below.{IsFirst, IsBest, cases, first_is, best_is}
use Rattle.curve.specs.declared.curve.Curve.{Curve}
use Rattle.frame.specs.declared.frame.View.{View}
use Rattle.overlap.specs.declared.subcurve.Subcurve.{Subcurve}
use Rattle.leaf.specs.declared.leaf.Crossing.{Crossing}
use Rattle.leaf.specs.declared.leaf.Frame.{Frame}
use Rattle.leaf.specs.Leaf.{Leaf, with_frame, without_frame}
use Rattle.walk.specs.declared.rule.Rule.TheVariants.{Nearest}
use Rattle.walk.specs.Leaves.{subcurve_at, open_at, leaf_at}
use Rattle.walk.specs.Rule.{passes, has_no_frame, distance_of, counts, ends, beats, is_better}
use Rattle.walk.specs.Walk.{end_by, best_by, leaf_by}
use Rattle.walk.proofs.Rules.{nan-below}

-- what is not so with a, where a is
pub neither : (a b : Bool) → a && b ≡ false → a ≡ true → b ≡ false
neither true b e h = e
neither false b e h = absurd (false≢true h)

-- ---- a leaf

pub counts-number : (l : Leaf) → counts Nearest l ≡ true → is_nan (distance_of l) ≡ false
unfolding counts
counts-number l e = go (is_nan (distance_of l)) ((and-eq-true_iff (passes l) (not (is_nan (distance_of l)))).0 e).1
  where
    go : (b : Bool) → not b ≡ true → b ≡ false
    go true e = absurd (false≢true e)
    go false e = refl

-- one that passes and does not count lies at a NaN
pub uncounted_not_below : (l : Leaf) (x : Float) → passes l ≡ true → counts Nearest l ≡ false → lt (distance_of l) x ≡ false
unfolding counts
uncounted_not_below (Some m) x p e = nan-below m.at.t x e
uncounted_not_below None x p e = absurd (false≢true p)

-- one that counts and does not end the walk has a frame
abbrev pub HasFrame : Leaf → Type 0
HasFrame l = (x : Crossing) × (f : Frame) × (l ≡ with_frame x f)

has-frame : (l : Leaf) → counts Nearest l ≡ true → ends Nearest l ≡ false → HasFrame l
unfolding counts ends
has-frame (Some m) e n = go m.frame n
  where
    go : (f : Result Frame Refusal) → ends Nearest (Some (record { at = m.at; frame = f })) ≡ false → HasFrame (Some (record { at = m.at; frame = f }))
    go (Ok f) n = (m.at, f, refl)
    go (Err k) n = absurd (true≢false (sym e ∙ n))
has-frame None e n = absurd (false≢true e)

-- ---- the leaves of a curve that is cut d times

module _ (c : Curve) (v : View) (s : Subcurve) (d : ℕ) where
  abbrev leaf : ℕ → Leaf
  leaf = leaf_at c v s d

  abbrev is_open_at : ℕ → Bool
  is_open_at = open_at c v s d

  abbrev open_counts : ℕ → Bool
  open_counts i = is_open_at i && counts Nearest (leaf i)

  abbrev open_ends : ℕ → Bool
  open_ends i = is_open_at i && ends Nearest (leaf i)

  abbrev nearer : ℕ → ℕ → Bool
  nearer j i = lt (distance_of (leaf j)) (distance_of (leaf i))

  pub end_first : end_by Nearest c v s d ≡ first_below (2 ^ d) open_ends
  unfolding end_by first_open passes_at open_at leaf_at subcurve_at
  end_first = refl

  pub best_below_lem : best_by Nearest c v s d ≡ best_below nearer (2 ^ d) open_counts
  unfolding best_by best_open passes_at open_at leaf_at subcurve_at beats is_better
  best_below_lem = refl

  both : (a b : Bool) → a && b ≡ true → (a ≡ true) × (b ≡ true)
  both a b e = (and-eq-true_iff a b).0 e

  counted-number : (i : ℕ) → open_counts i ≡ true → is_nan (distance_of (leaf i)) ≡ false
  counted-number i e = counts-number (leaf i) (both (is_open_at i) (counts Nearest (leaf i)) e).1

  best : IsBest nearer open_counts (2 ^ d) (best_below nearer (2 ^ d) open_counts)
  best = best_is nearer open_counts (λ a b c p. lt_trans _ _ _) (λ a b c p. not_lt_trans _ _ _ (counted-number b p)) (2 ^ d)

  -- the leaf i decides: it counts, no other lies nearer, and each before it that counts lies farther
  abbrev pub Best : ℕ → Type 0
  Best i =
      (i < 2 ^ d) × (is_open_at i ≡ true) × (counts Nearest (leaf i) ≡ true)
      × ((j : ℕ) → j < 2 ^ d → is_open_at j ≡ true → counts Nearest (leaf j) ≡ true → nearer j i ≡ false)
      × ((j : ℕ) → j < i → is_open_at j ≡ true → counts Nearest (leaf j) ≡ true → nearer i j ≡ true)

  best_says : (i : ℕ) → IsBest nearer open_counts (2 ^ d) (some i) → Best i
  best_says i h =
      let here = both (is_open_at i) (counts Nearest (leaf i)) h.1 in
      let farther : (j : ℕ) → j < i → is_open_at j ≡ true → counts Nearest (leaf j) ≡ true → nearer i j ≡ true = λ j l o e. h.2 j l (rw (o, e)) in
      (h.0, here.0, here.1, (λ j l o e. ⊎_elim (λ same. rw same (lt_itself _)) (⊎_elim (λ less. lt_asym _ _ (farther j less o e)) (λ more. h.3 j more l (rw (o, e)))) (cases j i)), farther)

  -- what the walk comes to where a leaf passes, with which leaf decides
  abbrev pub MetSays : Crossing → Result Frame Refusal → Type 0
  MetSays x (Ok f) = (i : ℕ) × (leaf i ≡ with_frame x f) × Best i
  MetSays x (Err reason) = (i : ℕ) × (i < 2 ^ d) × (is_open_at i ≡ true) × (leaf i ≡ without_frame x reason)

  -- and wherever it comes to
  abbrev pub Says : Leaf → Type 0
  Says (Some m) = MetSays m.at m.frame
  Says None = (j : ℕ) → j < 2 ^ d → is_open_at j ≡ true → counts Nearest (leaf j) ≡ false

  pub leaf_says : Says (leaf_by Nearest c v s d)
  unfolding leaf_by ends
  leaf_says = rw (end_first, best_below_lem) (go (first_below (2 ^ d) open_ends) (first_is (2 ^ d) open_ends) (best_below nearer (2 ^ d) open_counts) best)
    where
      ending : (i : ℕ) (l : Leaf) → i < 2 ^ d → is_open_at i ≡ true → leaf i ≡ l → ends Nearest l ≡ true → Says l
      ending i (Some m) less o same e = go' m.frame same e
        where
          go' : (f : Result Frame Refusal) → leaf i ≡ Some (record { at = m.at; frame = f }) → ends Nearest (Some (record { at = m.at; frame = f })) ≡ true → MetSays m.at f
          go' (Ok f) same e = absurd (false≢true e)
          go' (Err reason) same e = (i, less, o, same)
      ending i None less o same e = absurd (false≢true e)

      deciding : (i : ℕ) (l : Leaf) → leaf i ≡ l → HasFrame l → Best i → Says l
      deciding i (Some m) e h b = go' m.frame e h.2
        where
          go' : (f : Result Frame Refusal) → leaf i ≡ Some (record { at = m.at; frame = f }) → Some (record { at = m.at; frame = f }) ≡ with_frame h.0 h.1 → MetSays m.at f
          go' (Ok f) e same = (i, e, b)
          go' (Err reason) e same = absurd (true≢false (ap has_no_frame same))
      deciding i None e h b = absurd (false≢true (ap passes h.2))

      go : (o : Option ℕ) → IsFirst (2 ^ d) open_ends o → (p : Option ℕ) → IsBest nearer open_counts (2 ^ d) p → Says (at_or leaf None (or_else o p))
      go (some i) h p h' = let here = both (is_open_at i) (ends Nearest (leaf i)) h.1 in ending i (leaf i) h.0 here.0 refl here.1
      go none h (some i) h' = let b = best_says i h' in deciding i (leaf i) refl (has-frame (leaf i) b.2 (neither (is_open_at i) (ends Nearest (leaf i)) (h i b.0) b.1)) b
      go none h none h' = λ j l o. neither (is_open_at j) (counts Nearest (leaf j)) (h' j l) o
