use Rattle.bezier.proofs.Numbers.{max-number}
use Rattle.overlap.proofs.depth.largest_of_three.Goals as goal

pub max-requires-2 : goal.max-requires-2
max-requires-2 g c = λ t. rw c.max.ensures (max-number _ _ (c.requires t))
