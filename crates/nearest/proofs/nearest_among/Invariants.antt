-- The best is that of the curves so far.
use Rattle.std.proofs.Common.{◌≡◌, [], get_or, Ok}
use Rattle.nearest.specs.Nearest.{among, answer_of}
use Rattle.nearest.proofs.nearest_among.Given as goal

abbrev pub invariant-loop-k : goal.invariant-loop-k
invariant-loop-k l = Ok l.best ≡ among (λ k. answer_of l.flip l.aim k (get_or l.curves k [])) l.k
