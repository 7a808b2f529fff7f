-- What is framed is walked from the whole. Assumes nothing.
use Rattle.std.proofs.Common.{refl}
use Rattle.overlap.specs.Subcurve.{whole_of}
use Rattle.walk.proofs.walk.walk_aimed.Goals as goal

pub returns : goal.returns
unfolding whole_of
returns c = rw (← c.frame_aimed.ensures, c.in_ok-framed.was) (refl, rw c.whole.ensures at c.walk_whole.ensures)
