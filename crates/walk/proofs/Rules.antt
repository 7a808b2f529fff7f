-- What the rules have in common. Assumes nothing.
use mathlib.Core.Bool.{Bool, true, false, not, cond, ◌&&◌, ◌||◌, and-eq-true_iff, false≢true, true≢false}
use mathlib.Core.Path.{◌≡◌, refl}
use lib.Ieee.{Float, nan, inf, fin, is_nan, lt}
use Rattle.std.specs.Prelude.{Some, None, is_err}
use Rattle.limits.specs.declared.refusal.Refusal.{Refusal}
use Rattle.leaf.specs.declared.leaf.Crossing.{Crossing}
use Rattle.leaf.specs.declared.leaf.Met.{Met}
use Rattle.leaf.specs.Leaf.{Leaf, without_frame}
use Rattle.walk.specs.declared.rule.Rule.{Rule}
use Rattle.walk.specs.declared.rule.Rule.TheVariants.{Last, Nearest}
use Rattle.walk.specs.Rule.{is_counted, is_better, counts, ends, beats}
use Rattle.walk.specs.Steps.{takes_place, is_taken, later}

-- ---- by the rule of the last each leaf that passes is taken

last_taken : (m : Met) (before : Leaf) → is_taken Last m before ≡ true
unfolding is_taken takes_place is_counted is_better
last_taken m before = go (is_err m.frame) before
  where
    go : (b : Bool) (before : Leaf) → cond b true (takes_place Last m.at.t before) ≡ true
    go true before = refl
    go false (Some m') = refl
    go false None = refl

-- ---- a leaf that ends the walk

-- it passes
pub ends-counts : (rule : Rule) (l : Leaf) → ends rule l ≡ true → counts rule l ≡ true
unfolding ends counts
ends-counts Last (Some m) e = refl
ends-counts Last None e = e
ends-counts Nearest (Some m) e = ((and-eq-true_iff _ _).0 e).1
ends-counts Nearest None e = e

-- and takes every place
pub end_takes : (rule : Rule) (l before : Leaf) → ends rule l ≡ true → later rule l before ≡ l
unfolding ends later is_taken is_counted
end_takes Last (Some m) before e = rw (last_taken m before)
end_takes Last None before e = absurd (false≢true e)
end_takes Nearest (Some m) before e = let h = (and-eq-true_iff (is_err m.frame) (not (is_nan m.at.t))).0 e in rw (h.0, h.1)
end_takes Nearest None before e = absurd (false≢true e)

-- ---- one that does not

pub goes_on_lem : (rule : Rule) (l before : Leaf) → ends rule l ≡ false → ends rule before ≡ false → ends rule (later rule l before) ≡ false
unfolding later
goes_on_lem rule (Some m) before e h = go (is_taken rule m before)
  where
    go : (b : Bool) → ends rule (cond b (Some m) before) ≡ false
    go true = e
    go false = h
goes_on_lem rule None before e h = h

-- so what was not ended is, where this leaf ends it
pub ends-later : (rule : Rule) (l before : Leaf) → ends rule before ≡ false → ends rule (later rule l before) ≡ ends rule l
ends-later rule l before h = go (ends rule l) refl
  where
    go : (b : Bool) → ends rule l ≡ b → ends rule (later rule l before) ≡ ends rule l
    go true e = rw (end_takes rule l before e)
    go false e = rw e (goes_on_lem rule l before e h)

pub none_ends : (rule : Rule) → ends rule None ≡ false
unfolding ends
none_ends Last = refl
none_ends Nearest = refl

-- a leaf with no frame ends it where it passes
pub no_frame_ends : (rule : Rule) (at : Crossing) (k : Refusal) → ends rule (without_frame at k) ≡ is_counted rule at.t
unfolding ends is_counted
no_frame_ends Last at k = refl
no_frame_ends Nearest at k = refl

-- ---- which leaf stands

-- a NaN is below nothing
pub nan-below : (t x : Float) → not (is_nan t) ≡ false → lt t x ≡ false
unfolding is_nan lt
nan-below nan x e = refl
nan-below (inf s) x e = absurd (true≢false e)
nan-below (fin s m k) x e = absurd (true≢false e)

not-better : (rule : Rule) (t x : Float) → is_counted rule t ≡ false → is_better rule t x ≡ false
unfolding is_counted is_better
not-better Last t x e = e
not-better Nearest t x e = nan-below t x e

nan_taken : (m : Met) (before : Leaf) → not (is_nan m.at.t) ≡ false → is_taken Nearest m before ≡ false
unfolding is_taken takes_place is_counted is_better
nan_taken m before e = go (is_err m.frame) before
  where
    go : (b : Bool) (before : Leaf) → cond b (not (is_nan m.at.t)) (takes_place Nearest m.at.t before) ≡ false
    go true before = e
    go false (Some m') = nan-below m.at.t m'.at.t e
    go false None = e

pub skips : (rule : Rule) (l before : Leaf) → counts rule l ≡ false → later rule l before ≡ before
unfolding counts later
skips Last (Some m) before e = absurd (true≢false e)
skips Last None before e = refl
skips Nearest (Some m) before e = rw (nan_taken m before e)
skips Nearest None before e = refl

same : (b c : Bool) → c ≡ true → cond b c c ≡ true
same true c e = e
same false c e = e

pub takes : (rule : Rule) (l : Leaf) → counts rule l ≡ true → later rule l None ≡ l
unfolding counts later is_taken takes_place is_counted
takes Last (Some m) e = rw (same (is_err m.frame) true refl)
takes Last None e = refl
takes Nearest (Some m) e = rw (same (is_err m.frame) (not (is_nan m.at.t)) e)
takes Nearest None e = refl

or_true : (b : Bool) → b || true ≡ true
or_true true = refl
or_true false = refl

pub chooses : (rule : Rule) (p q : Leaf) → counts rule q ≡ true → counts rule p ≡ true → later rule p q ≡ cond (ends rule p || beats rule p q) p q
unfolding counts ends beats later is_taken takes_place is_better is_counted
chooses Last (Some m) (Some m') e h = rw (last_taken m (Some m'), or_true)
chooses Last (Some m) None e h = absurd (false≢true e)
chooses Last None q e h = absurd (false≢true h)
chooses Nearest (Some m) (Some m') e h = rw h (go (is_err m.frame))
  where
    go : (b : Bool) → cond (cond b true (lt m.at.t m'.at.t)) (Some m) (Some m') ≡ cond (b && true || lt m.at.t m'.at.t) (Some m) (Some m')
    go true = refl
    go false = refl
chooses Nearest (Some m) None e h = absurd (false≢true e)
chooses Nearest None q e h = absurd (false≢true h)
