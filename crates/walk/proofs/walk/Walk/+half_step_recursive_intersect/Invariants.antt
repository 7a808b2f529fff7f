-- `half_step` calls `recursive_intersect` at its own depth, which calls `half_step` one depth lower: 2 * depth + 1 and 2 * depth.
use Rattle.std.proofs.Common.{◌+◌, ◌*◌}
use Rattle.walk.proofs.walk.Walk.+half_step_recursive_intersect.Given as goal

abbrev pub decreases-half_step : goal.decreases-half_step
decreases-half_step l = 2 * l.depth + 1

abbrev pub decreases-recursive_intersect : goal.decreases-recursive_intersect
decreases-recursive_intersect l = 2 * l.depth
