-- The whole is thrown out, and no subcurve is open; or the walk comes to what its leaves say. Assumes nothing.
use Rattle.std.proofs.Common.{◌≡◌, true, false, refl}
use Rattle.overlap.specs.Thrown.{is_whole_thrown}
use Rattle.walk.proofs.Flat.{none_over, whole_room, whole_shut, whole_walked}
use Rattle.walk.proofs.walk.walk_whole.Goals as goal

pub recursive_intersect-requires-clause-room : goal.recursive_intersect-requires-clause-room
recursive_intersect-requires-clause-room c = rw c.max_depth-cuts.ensures (whole_room _ _)

pub recursive_intersect-requires-clause-goes_on : goal.recursive_intersect-requires-clause-goes_on
recursive_intersect-requires-clause-goes_on c = none_over _

pub returns-then-not-is_thrown : goal.returns-then-not-is_thrown
returns-then-not-is_thrown c =
    let a = c.args in
    let t : is_whole_thrown a.seen.now.curve.now a.seen.now.view.zmax a.s ≡ false = cc in
    whole_walked _ _ _ _ t _ _ refl (rw (c.max_depth-cuts.ensures, c.from-whole.ensures) at c.recursive_intersect.ensures.walked)

pub returns-else-not-is_thrown : goal.returns-else-not-is_thrown
returns-else-not-is_thrown c =
    let a = c.args in
    let t : is_whole_thrown a.seen.now.curve.now a.seen.now.view.zmax a.s ≡ true = cc in
    whole_shut _ _ _ _ t _ refl
