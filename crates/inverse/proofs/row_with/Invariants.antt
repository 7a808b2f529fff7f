use Rattle.std.proofs.Common.{◌≡◌, ℕ, ◌+◌, ◌*◌, ◌<◌, length, get_or}
use lib.Ieee.{nan}
use Rattle.inverse.specs.Inverse.{but_at}
use Rattle.inverse.proofs.row_with.Given as goal

abbrev pub invariant-loop-k : goal.invariant-loop-k
invariant-loop-k l =
    (length l.entries ≡ 4) × ((i : ℕ) → i < l.k → get_or l.entries i nan ≡ but_at (get_or l.m (4 * l.row + i) nan) i l.col l.x)
