use Rattle.std.proofs.Common.{◌≡◌}
use Rattle.inverse.specs.Inverse.{inverse_flat}
use Rattle.inverse.proofs.Turns.{before, filled, back}
use Rattle.inverse.proofs.invert.Given as goal

abbrev pub invariant-loop-k : goal.invariant-loop-k
invariant-loop-k l =
    (l.v ≡ (before l.fn.v l.k).0) × (l.ipiv ≡ (before l.fn.v l.k).1) × (l.pivots ≡ filled l.fn.v l.k)

abbrev pub invariant-loop-p : goal.invariant-loop-p
invariant-loop-p l = back l.v l.p-iterator.iter.rest.now ≡ inverse_flat l.fn.v
