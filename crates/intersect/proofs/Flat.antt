-- The reply by its subcurves: what the walk comes to by the rule of the last is what `replied_at` says. Assumes nothing.
use mathlib.Core.Bool.{Bool}
use mathlib.Core.Option.{Option, none, some}
use mathlib.Core.Path.{◌≡◌, refl, ap, ap₂, ◌∙◌}
use Prim.Native.Nat.{ℕ}
use Rattle.std.specs.Prelude.{None, Result, Ok, Err}
use Rattle.geometry.specs.declared.ray.Ray.{Ray}
use Rattle.limits.specs.declared.refusal.Refusal.{Refusal}
use Rattle.bisection.specs.Below.{or_else, at_or}
use Rattle.bisection.proofs.Best.{best_open_last}
use Rattle.curve.specs.declared.curve.Curve.{Curve}
use Rattle.frame.specs.declared.frame.Aim.{Aim}
use Rattle.frame.specs.declared.frame.Framed.{Framed}
use Rattle.frame.specs.declared.frame.View.{View}
use Rattle.frame.specs.Frame.{framed_along}
use Rattle.frame.proofs.FramedRay.{framed-ray}
use Rattle.overlap.specs.declared.subcurve.Subcurve.{Subcurve}
use Rattle.overlap.specs.Depth.{depth_of}
use Rattle.overlap.specs.Subcurve.{whole_of, low_half, high_half}
use Rattle.leaf.specs.Leaf.{leaf_of}
use Rattle.walk.specs.declared.rule.Rule.TheVariants.{Last}
use Rattle.walk.specs.Leaves.{thrown, whole_open, leaf_at}
use Rattle.walk.specs.Rule.{passes, counts, ends, beats, is_better}
use Rattle.walk.specs.declared.walk.Reached.{Reached}
use Rattle.walk.specs.Walk.{end_by, best_by, leaf_by, count_by, reached_by, Walked}
use Rattle.intersect.specs.declared.Intersection.{Intersection}
use Rattle.intersect.specs.declared.Intersection.TheVariants as reply
use Rattle.intersect.specs.Intersect.{reply_of, stop_of, last_of, count_of, replied_at, intersect_whole, intersect_framed}

module _ (c : Curve) (v : View) (s : Subcurve) (d : ℕ) where
  end_is : end_by Last c v s d ≡ stop_of c v s d
  unfolding end_by stop_of ends
  end_is = refl

  best_is : best_by Last c v s d ≡ last_of c v s d
  unfolding best_by last_of counts beats is_better
  best_is = best_open_last low_half high_half (thrown c v) (λ p. passes (leaf_of c v p)) (whole_open c v s) s d

  count_is : count_by Last c v s d ≡ count_of c v s d
  unfolding count_by count_of
  count_is = rw end_is

  decided : leaf_by Last c v s d ≡ at_or (leaf_at c v s d) None (or_else (stop_of c v s d) (last_of c v s d))
  unfolding leaf_by
  decided = rw (end_is, best_is)

  -- the reply is made at the end
  reply_at : (ray : Ray) (flip : Bool) (n : ℕ) (o : Option ℕ) → reply_of c ray flip n (at_or (leaf_at c v s d) None o) ≡ at_or (λ i. reply_of c ray flip n (leaf_at c v s d i)) (Ok (reply.Miss n)) o
  reply_at ray flip n none = refl
  reply_at ray flip n (some i) = refl

pub whole_replied : (c : Curve) (ray : Ray) (flip : Bool) (v : View) (s : Subcurve) (q : Reached) → q ≡ reached_by Last c v s (depth_of c s.cp)
    → reply_of c ray flip q.looked q.leaf ≡ intersect_whole c ray flip v s
unfolding intersect_whole replied_at
whole_replied c ray flip v s q e =
    let d = depth_of c s.cp in
    ap (λ (r : Reached). reply_of c ray flip r.looked r.leaf) e
    ∙ ap₂ (reply_of c ray flip) (count_is c v s d) (decided c v s d)
    ∙ reply_at c v s d ray flip (count_of c v s d) (or_else (stop_of c v s d) (last_of c v s d))

-- what a walk that has come to its end replies, or that there is no frame
abbrev pub replied_with : Curve → Bool → Ray → Result Unit Refusal → Reached → Result Intersection Refusal
replied_with c flip ray (Ok t) q = reply_of c ray flip q.looked q.leaf
replied_with c flip ray (Err reason) q = Err reason

-- what `intersect_along` returns
pub along_replied : (c : Curve) (flip : Bool) (a : Aim) (answer : Result Unit Refusal) (q : Reached) → Walked Last c (framed_along c a) answer q → replied_with c flip a.ray answer q ≡ intersect_framed c flip (framed_along c a)
unfolding intersect_framed whole_of
along_replied c flip a answer q = go (framed_along c a) refl
  where
    go : (f : Result Framed Refusal) → framed_along c a ≡ f → Walked Last c f answer q → replied_with c flip a.ray answer q ≡ intersect_framed c flip f
    go (Ok f) e h = rw (h.0, ← framed-ray a c f e) (whole_replied c f.ray flip f.view (whole_of c f.cubic) q h.1)
    go (Err reason) e h = rw h
