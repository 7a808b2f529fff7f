-- What the two functions give is what `Steps` says of a step: of a half, of a leaf, and of a walk that is cut. Assumes nothing.
use Rattle.std.proofs.Common.{refl, ◌∙◌, arith}
use Rattle.walk.proofs.Steps.{room_low, room_high, half_out, half_in_lem, walk_ends, over-entered, over-settled, one_more, walk_stops, walk_goes}
use Rattle.walk.proofs.walk.Walk.+half_step_recursive_intersect.Goals as goal

pub half_step-returns-then-is_thrown-clause-walked : goal.half_step-returns-then-is_thrown-clause-walked
half_step-returns-then-is_thrown-clause-walked t c = half_out _ _ _ _ _ _ c.is_thrown.ensures c.if-is_thrown.true _

pub half_step-returns-else-is_thrown-clause-walked : goal.half_step-returns-else-is_thrown-clause-walked
half_step-returns-else-is_thrown-clause-walked t c =
    half_in_lem _ _ _ _ _ _ c.is_thrown.ensures c.if-is_thrown.false _ _ c.recursive_intersect.ensures.walked

pub recursive_intersect-half_step-requires : goal.recursive_intersect-half_step-requires
recursive_intersect-half_step-requires t c =
    (omega arith, (room_low _ _ c.if-depth-eq0.false c.requires.room, over-entered _ _ _ ∙ c.requires.goes_on))

pub recursive_intersect-half_step-requires-else-half_step : goal.recursive_intersect-half_step-requires-else-half_step
recursive_intersect-half_step-requires-else-half_step t c =
    (omega arith, (room_high _ _ _ _ _ _ _ _ c.if-depth-eq0.false c.requires.room (one_more _) c.half_step.ensures.walked, (cc)))

pub recursive_intersect-returns-then-depth-eq0-clause-walked : goal.recursive_intersect-returns-then-depth-eq0-clause-walked
recursive_intersect-returns-then-depth-eq0-clause-walked t c =
    walk_ends _ _ _ _ _ _ _ _ c.if-depth-eq0.true c.run_leaf-leaf.ensures c.settle.ensures.decided refl

pub recursive_intersect-returns-then-depth-eq0-clause-over : goal.recursive_intersect-returns-then-depth-eq0-clause-over
recursive_intersect-returns-then-depth-eq0-clause-over t c =
    over-settled _ _ _ _ _ _ c.requires.goes_on c.settle.ensures.decided c.settle.ensures.ended

pub recursive_intersect-returns-then-half_step-clause-walked : goal.recursive_intersect-returns-then-half_step-clause-walked
recursive_intersect-returns-then-half_step-clause-walked t c =
    walk_stops _ _ _ _ _ _ _ _ _ _ _ c.if-depth-eq0.false (one_more _) c.halves-low.ensures.low c.halves-low.ensures.high c.half_step.ensures.walked c.half_step.ensures.over c.if-half_step.true

pub recursive_intersect-returns-else-half_step-clause-walked : goal.recursive_intersect-returns-else-half_step-clause-walked
recursive_intersect-returns-else-half_step-clause-walked t c =
    walk_goes _ _ _ _ _ _ _ _ _ _ _ c.if-depth-eq0.false (one_more _) c.halves-low.ensures.low c.halves-low.ensures.high c.half_step.ensures.walked c.half_step.ensures.over c.if-half_step.false _ c.half_step-else-half_step.ensures.walked
