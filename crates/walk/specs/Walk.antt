-- What a walk comes to, by the leaves and not by the steps: which leaf decides by the rule, and how many subcurves are looked at. Definitions only.
use Rattle.std.specs.Prelude.{◌≡◌, ℕ, None, Result, Ok, Err}
use Rattle.std.proofs.Math.Option.{Option}
use Rattle.limits.specs.declared.refusal.Refusal.{Refusal}
use Rattle.bisection.specs.Below.{or_else, at_or}
use Rattle.bisection.specs.Nodes.{open_up_to, first_open, best_open}
use Rattle.curve.specs.declared.curve.Curve.{Curve}
use Rattle.frame.specs.declared.frame.Framed.{Framed}
use Rattle.frame.specs.declared.frame.View.{View}
use Rattle.overlap.specs.declared.subcurve.Subcurve.{Subcurve}
use Rattle.overlap.specs.Depth.{depth_of}
use Rattle.overlap.specs.Subcurve.{whole_of, low_half, high_half}
use Rattle.leaf.specs.Leaf.{Leaf, leaf_of}
use Rattle.walk.specs.declared.rule.Rule.{Rule}
use Rattle.walk.specs.declared.walk.Reached.{Reached}
use Rattle.walk.specs.Leaves.{thrown, whole_open, leaf_at}
use Rattle.walk.specs.Rule.{counts, ends, beats}

module _ (rule : Rule) (c : Curve) (v : View) (s : Subcurve) (d : ℕ) where
  -- the first open leaf that ends the walk
  unfoldable pub end_by : Option ℕ
  end_by = first_open low_half high_half (thrown c v) (λ p. ends rule (leaf_of c v p)) (whole_open c v s) s d

  -- the best open leaf that passes: a later one takes the place of an earlier where it beats it
  unfoldable pub best_by : Option ℕ
  best_by = best_open low_half high_half (thrown c v) (λ p. counts rule (leaf_of c v p)) (λ p q. beats rule (leaf_of c v p) (leaf_of c v q)) (whole_open c v s) s d

  -- The answer of the leaf that ends the walk, and where there is none of the best. Where there is none of either no leaf passes.
  unfoldable pub leaf_by : Leaf
  leaf_by = at_or (leaf_at c v s d) None (or_else end_by best_by)

  -- how many subcurves of all levels are open and start no later than the end
  unfoldable pub count_by : ℕ
  count_by = open_up_to low_half high_half (thrown c v) (whole_open c v s) s d end_by

  -- both
  abbrev pub reached_by : Reached
  reached_by = record { leaf = leaf_by; looked = count_by }

-- what the walk of a framed curve answers, and what it has come to
abbrev pub Walked : Rule → Curve → Result Framed Refusal → Result Unit Refusal → Reached → Type 0
Walked rule c (Ok f) answer r = (answer ≡ Ok tt) × (r ≡ reached_by rule c f.view (whole_of c f.cubic) (depth_of c f.cubic))
Walked rule c (Err reason) answer r = answer ≡ Err reason
