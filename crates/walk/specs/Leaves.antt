-- The subcurves of a curve in the ray's frame, the pieces of the walk, by level and number. Definitions only.
-- Level k has the subcurves (k, 0) to (k, 2 ^ k - 1): the whole is (0, 0), and (k + 1, j) is a half of (k, j / 2), the half at umin where j is even.
-- The subcurves of level d are the leaves, the slivers. Which are open and what a leaf answers follows from the curve, the view and the whole alone.
use Rattle.std.specs.Prelude.{Bool, not, ℕ}
use Rattle.bisection.specs.Nodes.{node, is_open}
use Rattle.curve.specs.declared.curve.Curve.{Curve}
use Rattle.frame.specs.declared.frame.View.{View}
use Rattle.overlap.specs.declared.subcurve.Subcurve.{Subcurve}
use Rattle.overlap.specs.Subcurve.{low_half, high_half}
use Rattle.overlap.specs.Thrown.{is_thrown, is_whole_thrown}
use Rattle.leaf.specs.Leaf.{Leaf, leaf_of}

-- the subcurve j of level k
unfoldable pub subcurve_at : Subcurve → ℕ → ℕ → Subcurve
subcurve_at = node low_half high_half

module _ (c : Curve) (v : View) where
  abbrev pub thrown : Subcurve → Bool
  thrown = is_thrown c v.zmax

  module _ (s : Subcurve) where
    abbrev pub whole_open : Bool
    whole_open = not (is_whole_thrown c v.zmax s)

    -- whether the subcurve j of level k is open: neither it nor any that holds it, the whole included, is thrown out
    unfoldable pub open_at : ℕ → ℕ → Bool
    open_at = is_open low_half high_half thrown whole_open s

    -- the answer of the leaf i, after d cuts
    unfoldable pub leaf_at : ℕ → ℕ → Leaf
    leaf_at d i = leaf_of c v (subcurve_at s d i)
