-- The corners are those of the union.
use Rattle.geometry.specs.Bounds.{expanded}
use Rattle.geometry.specs.Point.{point_from, moved, moved_back}
use Rattle.bezier.specs.Corners.{lower_in, upper_in}
use Rattle.measure.specs.Bound.{bounds_in, widened}
use Rattle.measure.proofs.Union.{passes_are_the_union}
use Rattle.measure.proofs.bound.widened_corners.Goals as goal

pub returns : goal.returns
unfolding bounds_in widened expanded point_from moved moved_back lower_in upper_in
returns c = rw (← passes_are_the_union _, ← c.corners_of-c.ensures.result_value, ← c.corners_of-c.ensures.result_value_2)
