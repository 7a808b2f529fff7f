-- The walk through the nodes, as code goes: a node is entered, and its halves that are not thrown out are walked in turn, unless the reply is over.
-- Definitions only, for any node, test, leaf and reply. No contract of a public function cites them: they serve the functions that walk.
use Rattle.std.specs.Prelude.{Bool, true, false, ℕ, zero, suc}

-- f is skipped where the test passes
abbrev pub unless {ℓ} : {A : Type ℓ} → Bool → (A → A) → A → A
unless true f r = r
unless false f r = f r

-- f is skipped from a reply that is over
abbrev pub onward : {A : Type 0} → (A → Bool) → (A → A) → A → A
onward over f q = unless (over q) f q

module _ {Node St : Type 0} (low high : Node → Node) (thrown : Node → Bool) (enter : St → St) (step : Node → St → St) (over : St → Bool) where
  unfoldable pub walk_of : ℕ → Node → St → St
  walk_of zero s r = step s (enter r)
  walk_of (suc d) s r = onward over (unless (thrown (high s)) (walk_of d (high s))) (unless (thrown (low s)) (walk_of d (low s)) (enter r))

  abbrev pub half_step_of : ℕ → Node → St → St
  half_step_of d s = unless (thrown s) (walk_of d s)
