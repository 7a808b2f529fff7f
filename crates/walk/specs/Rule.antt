-- What a rule makes of a leaf's answer: whether it passes, whether it ends the walk, and whether it goes before an earlier one. Definitions only.
use Rattle.std.specs.Prelude.{Bool, true, false, not, ◌&&◌, ◌||◌, Some, None, is_err, Float}
use Rattle.std.specs.Float.{nan}
use Rattle.std.specs.Float.Ieee.{is_nan, eq, lt}
use Rattle.float.specs.Arith.{0f}
use Rattle.leaf.specs.Leaf.{Leaf}
use Rattle.walk.specs.declared.rule.Rule.{Rule}
use Rattle.walk.specs.declared.rule.Rule.TheVariants.{Last, Nearest}

-- ---- a leaf

-- it passes: none of its tests returns false
abbrev pub passes : Leaf → Bool
passes (Some m) = true
passes None = false

abbrev pub has_no_frame : Leaf → Bool
has_no_frame (Some m) = is_err m.frame
has_no_frame None = false

-- its distance, whether or not it has a frame: one that fails has none
abbrev pub distance_of : Leaf → Float
distance_of (Some m) = m.at.t
distance_of None = nan

-- it stops the walk, where it is open: it passes with no frame, or with distance equal to 0
abbrev pub stops : Leaf → Bool
stops (Some m) = is_err m.frame || eq m.at.t 0f
stops None = false

-- ---- by the rule

-- at this distance a leaf that passes counts as passing
unfoldable pub is_counted : Rule → Float → Bool
is_counted Last t = true
is_counted Nearest t = not (is_nan t)

-- a leaf at the first distance goes before an earlier one at the second
unfoldable pub is_better : Rule → Float → Float → Bool
is_better Last t earlier = true
is_better Nearest t earlier = lt t earlier

unfoldable pub counts : Rule → Leaf → Bool
counts Last l = passes l
counts Nearest l = passes l && not (is_nan (distance_of l))

-- it ends the walk, where it is open
unfoldable pub ends : Rule → Leaf → Bool
ends Last l = stops l
ends Nearest l = has_no_frame l && not (is_nan (distance_of l))

-- the later leaf p goes before q
unfoldable pub beats : Rule → Leaf → Leaf → Bool
beats rule p q = is_better rule (distance_of p) (distance_of q)
