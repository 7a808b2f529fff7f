-- The walk, as the code goes: what each step makes of what was reached so far. Definitions only. The contract of `walk_whole` does not cite them.
use Rattle.std.specs.Prelude.{Bool, cond, ℕ, ◌+◌, Some, None, is_err, Float}
use Rattle.bisection.specs.Walk.{walk_of, half_step_of}
use Rattle.curve.specs.declared.curve.Curve.{Curve}
use Rattle.frame.specs.declared.frame.View.{View}
use Rattle.overlap.specs.declared.subcurve.Subcurve.{Subcurve}
use Rattle.overlap.specs.Subcurve.{low_half, high_half}
use Rattle.overlap.specs.Thrown.{is_thrown}
use Rattle.leaf.specs.declared.leaf.Met.{Met}
use Rattle.leaf.specs.Leaf.{Leaf, leaf_of}
use Rattle.walk.specs.declared.rule.Rule.{Rule}
use Rattle.walk.specs.declared.walk.Reached.{Reached}
use Rattle.walk.specs.Rule.{is_counted, is_better, ends}

-- one more subcurve
unfoldable pub entered : Reached → Reached
entered r = record { leaf = r.leaf; looked = r.looked + 1 }

module _ (rule : Rule) where
  -- a leaf with a frame, at this distance, takes the place of the one before
  unfoldable pub takes_place : Float → Leaf → Bool
  takes_place t (Some m) = is_better rule t m.at.t
  takes_place t None = is_counted rule t

  -- a leaf that passes takes it: one with no frame wherever it counts
  unfoldable pub is_taken : Met → Leaf → Bool
  is_taken m before = cond (is_err m.frame) (is_counted rule m.at.t) (takes_place m.at.t before)

  unfoldable pub later : Leaf → Leaf → Leaf
  later (Some m) before = cond (is_taken m before) (Some m) before
  later None before = before

  unfoldable pub settled : Leaf → Reached → Reached
  settled l r = record { leaf = later l r.leaf; looked = r.looked }

  unfoldable pub is_over : Reached → Bool
  is_over r = ends rule r.leaf

  unfoldable pub walk_in : Curve → View → ℕ → Subcurve → Reached → Reached
  walk_in c v = walk_of low_half high_half (is_thrown c v.zmax) entered (λ s. settled (leaf_of c v s)) is_over

  unfoldable pub half_in : Curve → View → ℕ → Subcurve → Reached → Reached
  half_in c v = half_step_of low_half high_half (is_thrown c v.zmax) entered (λ s. settled (leaf_of c v s)) is_over
