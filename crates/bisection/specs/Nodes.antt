-- The nodes of a thing that is cut in two again and again, by level and number. Definitions only, for any kind of node and any test.
-- Level k has the nodes (k, 0) to (k, 2 ^ k - 1). The nodes of the last level d are the leaves, a curve's slivers. The node (k, j) holds the leaves from
-- j * 2 ^ (d - k) on, and starts there.
use Rattle.std.specs.Prelude.{Bool, true, false, not, ◌&&◌, ℕ, zero, suc, ◌-◌, ◌*◌, ◌/◌, ◌%◌, ◌^◌, leb, eqb}
use Rattle.std.proofs.Math.Option.{Option, none, some}
use Rattle.bisection.specs.Below.{first_below, last_below, best_below, count_below, sum_below}

-- x comes no later than the stop, which may be missing
abbrev pub not_after : Option ℕ → ℕ → Bool
not_after none x = true
not_after (some i) x = leb x i

-- ---- the nodes
module _ {Node : Type 0} (low high : Node → Node) where
  abbrev pub child_of : Bool → Node → Node
  child_of true p = low p
  child_of false p = high p

  -- the node (k, j) of s: (0, 0) is s, and (k + 1, j) is a half of (k, j / 2), the low one where j is even
  unfoldable pub node : Node → ℕ → ℕ → Node
  node s zero j = s
  node s (suc k) j = child_of (eqb (j % 2) 0) (node s k (j / 2))

  module _ (thrown : Node → Bool) where
    -- Whether (k, j) is open: neither it nor a node that holds it is thrown out. w says so of the whole.
    unfoldable pub is_open : Bool → Node → ℕ → ℕ → Bool
    is_open w s zero j = w
    is_open w s (suc k) j = is_open w s k (j / 2) && not (thrown (node s (suc k) j))

    -- how many nodes of the levels 0 to d are open and start no later than the stop
    unfoldable pub open_up_to : Bool → Node → ℕ → Option ℕ → ℕ
    open_up_to w s d stop = sum_below (suc d) (λ k. count_below (2 ^ k) (λ j. is_open w s k j && not_after stop (j * 2 ^ (d - k))))

    module _ (test : Node → Bool) where
      -- whether the leaf i is open and passes the test
      unfoldable pub passes_at : Bool → Node → ℕ → ℕ → Bool
      passes_at w s d i = is_open w s d i && test (node s d i)

      -- the first and the last open leaf that passes
      unfoldable pub first_open : Bool → Node → ℕ → Option ℕ
      first_open w s d = first_below (2 ^ d) (passes_at w s d)

      unfoldable pub last_open : Bool → Node → ℕ → Option ℕ
      last_open w s d = last_below (2 ^ d) (passes_at w s d)

      -- the best open leaf that passes, where `beats p q` lets the later p take the place of q
      unfoldable pub best_open : (Node → Node → Bool) → Bool → Node → ℕ → Option ℕ
      best_open beats w s d = best_below (λ j i. beats (node s d j) (node s d i)) (2 ^ d) (passes_at w s d)
