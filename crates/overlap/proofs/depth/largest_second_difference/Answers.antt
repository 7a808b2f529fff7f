use Rattle.std.proofs.Common.{◌≡◌, false, refl}
use lib.Ieee.{is_nan, of_bits}
use Rattle.float.specs.Arith.{0f}
use Rattle.bezier.proofs.Numbers.{max-number}
use Rattle.overlap.proofs.depth.largest_second_difference.Goals as goal

zero_is_number : is_nan 0f ≡ false
unfolding is_nan of_bits
zero_is_number = refl

pub max-first-requires : goal.max-first-requires
max-first-requires c = λ _. zero_is_number

pub max-requires : goal.max-requires
max-requires c = λ _. rw c.max-first.ensures (max-number _ _ zero_is_number)
