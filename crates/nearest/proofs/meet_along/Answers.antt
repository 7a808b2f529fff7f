-- The leaf that decides has a frame. Assumes nothing.
use Rattle.nearest.specs.Nearest.{leaf_answer}
use Rattle.nearest.proofs.Curves.{walked}
use Rattle.nearest.proofs.meet_along.Goals as goal

pub returns : goal.returns
unfolding leaf_answer
returns c = rw c.record_at.ensures (rw (c.in-Some.is, c.in_ok-met.was) at (walked _ c.args.flip c.args.k _ _ c.in_ok-walk_aimed.ensures))
