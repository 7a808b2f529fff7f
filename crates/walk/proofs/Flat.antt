-- What a walk comes to by its leaves: the steps lead to what `leaf_by` and `count_by` say. Assumes nothing.
use mathlib.Core.Bool.{Bool, true, false, cond, ◌||◌}
use mathlib.Core.Option.{Option, none, some}
use mathlib.Core.Path.{◌≡◌, refl, ap, ◌∙◌}
use Prim.Native.Nat.{ℕ, suc, ◌+◌, ◌^◌, ◌≤◌}
use native.Mathlib.Numerals.{add-one}
use native.Mathlib.Omega.{arith}
use lib.Pow.{pow_mono}
use Rattle.std.specs.Prelude.{None}
use Rattle.bezier.specs.declared.cubic.Cubic.{Cubic}
use Rattle.bisection.specs.Below.{or_else, at_or}
use Rattle.bisection.specs.Nodes.{node, first_open, best_open, open_up_to}
use Rattle.bisection.proofs.Nodes.{before_up_to, before_shut, first_shut, best_shut}
use Rattle.bisection.proofs.Walked.{Laws}
use Rattle.bisection.proofs.Best.{Keeps, walk_best}
use Rattle.curve.specs.declared.curve.Curve.{Curve}
use Rattle.frame.specs.declared.frame.View.{View}
use Rattle.overlap.specs.declared.subcurve.Subcurve.{Subcurve}
use Rattle.overlap.specs.Depth.{depth_of}
use Rattle.overlap.specs.Subcurve.{low_half, high_half}
use Rattle.overlap.specs.Thrown.{is_thrown, is_whole_thrown}
use Rattle.overlap.proofs.DepthMost.{depth_most}
use Rattle.leaf.specs.Leaf.{Leaf, leaf_of}
use Rattle.walk.specs.declared.rule.Rule.{Rule}
use Rattle.walk.specs.Leaves.{subcurve_at, leaf_at}
use Rattle.walk.specs.Rule.{counts, ends, beats}
use Rattle.walk.specs.declared.walk.Reached.{Reached}
use Rattle.walk.specs.Steps.{entered, settled, is_over, walk_in}
use Rattle.walk.specs.Walk.{end_by, best_by, leaf_by, count_by, reached_by}
use Rattle.walk.proofs.Rules.{ends-counts, end_takes, goes_on_lem, none_ends, skips, takes, chooses}

-- what a leaf decides, with n subcurves counted
abbrev pub with_count : ℕ → Leaf → Reached
with_count n l = record { leaf = l; looked = n }

reached-at : (f : ℕ → Leaf) (n : ℕ) (o : Option ℕ) → at_or (λ i. with_count n (f i)) (with_count n None) o ≡ with_count n (at_or f None o)
reached-at f n none = refl
reached-at f n (some i) = refl

module _ (rule : Rule) (c : Curve) (v : View) where
  abbrev Live : Reached → Type 0
  Live r = is_over rule r ≡ false

  laws : Laws entered (λ s. settled rule (leaf_of c v s)) (is_over rule) (λ s. ends rule (leaf_of c v s)) Live
  unfolding entered settled is_over
  laws = record {
    live_on = λ r l. l;
    live_enter = λ r l. l;
    live_step = λ s r l e. goes_on_lem rule (leaf_of c v s) r.leaf e l;
    over-step = λ s r l e. ap (ends rule) (end_takes rule (leaf_of c v s) r.leaf e) ∙ e;
    over_enter = λ r. refl;
    step_enter = λ s r. refl;
  }

  keeps : Keeps (λ s. settled rule (leaf_of c v s)) entered (λ s. ends rule (leaf_of c v s)) (λ s. counts rule (leaf_of c v s)) (λ p q. beats rule (leaf_of c v p) (leaf_of c v q)) (λ n s. with_count n (leaf_of c v s)) (λ n. with_count n None) Live
  unfolding is_over entered settled
  keeps = record {
    live_miss = none_ends rule;
    skips = λ s r e. ap (λ (x : Leaf). with_count r.looked x) (skips rule (leaf_of c v s) r.leaf e);
    takes = λ s e. ap (with_count 0) (takes rule (leaf_of c v s) e);
    chooses = λ p q e _ h. ap (with_count 0) (chooses rule (leaf_of c v p) (leaf_of c v q) e h) ∙ chosen p q (ends rule (leaf_of c v p) || beats rule (leaf_of c v p) (leaf_of c v q));
    stop_passes = λ s. ends-counts rule (leaf_of c v s);
    enter_miss = λ n. rw add-one;
    enter_reply = λ n s. rw add-one;
  }
    where
      chosen : (p q : Subcurve) (b : Bool) → with_count 0 (cond b (leaf_of c v p) (leaf_of c v q)) ≡ with_count 0 (leaf_of c v (cond b p q))
      chosen p q true = refl
      chosen p q false = refl

  module _ (s : Subcurve) (d : ℕ) where
    walked : is_whole_thrown c v.zmax s ≡ false → walk_in rule c v d s (with_count 0 None) ≡ reached_by rule c v s d
    unfolding walk_in leaf_by count_by end_by best_by leaf_at subcurve_at
    walked e =
        let thrown = is_thrown c v.zmax in
        let stop = first_open low_half high_half thrown (λ s. ends rule (leaf_of c v s)) true s d in
        let best = best_open low_half high_half thrown (λ s. counts rule (leaf_of c v s)) (λ p q. beats rule (leaf_of c v p) (leaf_of c v q)) true s d in
        rw e
        (walk_best low_half high_half thrown entered (λ s. settled rule (leaf_of c v s)) (is_over rule) (λ s. ends rule (leaf_of c v s)) (λ s. counts rule (leaf_of c v s))
        (λ p q. beats rule (leaf_of c v p) (leaf_of c v q)) (λ n s. with_count n (leaf_of c v s)) (λ n. with_count n None) Live laws keeps s d
        ∙ reached-at (λ i. leaf_of c v (node low_half high_half s d i)) (open_up_to low_half high_half thrown true s d stop) (or_else stop best))

    none_open : is_whole_thrown c v.zmax s ≡ true → None ≡ leaf_by rule c v s d
    unfolding leaf_by end_by best_by
    none_open e = rw (e, first_shut, best_shut)

    none_counted : is_whole_thrown c v.zmax s ≡ true → 0 ≡ count_by rule c v s d
    unfolding count_by
    none_counted e = rw (e, before_up_to, before_shut)

-- ---- the returns of `walk_whole`, and what it shows of its call

pub none_over : (rule : Rule) → is_over rule (with_count 0 None) ≡ false
unfolding is_over
none_over rule = none_ends rule

pub whole_room : (c : Curve) (cp : Cubic) → 0 + 2 ^ suc (depth_of c cp) ≤ 2 ^ 32
whole_room c cp =
    let small : suc (depth_of c cp) ≤ 11 = omega (arith, depth_most c cp) in
    omega (arith, pow_mono small)

module _ (rule : Rule) (c : Curve) (v : View) (s : Subcurve) where
  pub whole_shut : is_whole_thrown c v.zmax s ≡ true → (r : Reached) → r ≡ with_count 0 None → r ≡ reached_by rule c v s (depth_of c s.cp)
  whole_shut t r z =
      z ∙ rw (← none_open rule c v s (depth_of c s.cp) t, ← none_counted rule c v s (depth_of c s.cp) t)

  pub whole_walked : is_whole_thrown c v.zmax s ≡ false → (r q : Reached) → q ≡ with_count 0 None → r ≡ walk_in rule c v (depth_of c s.cp) s q → r ≡ reached_by rule c v s (depth_of c s.cp)
  whole_walked t r q z w = w ∙ rw z (walked rule c v s (depth_of c s.cp) t)
