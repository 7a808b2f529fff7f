-- The lengths of what is written. Assumes nothing.
use mathlib.Core.Path.{◌≡◌}
use Prim.Native.Nat.{ℕ, ◌*◌}
use lib.Ieee.{Float}
use lib.ListN.{length}
use mathlib.Core.List.{List}
use Rattle.curve.specs.Layout.{floats, curve_floats}
use Rattle.create.specs.Create.{part_of, part_floats, part_count, segment_floats}
use Rattle.bezier.specs.declared.cubic.Cubic.{Cubic}
use Rattle.create.specs.declared.create.Params.{Params}
use Rattle.limits.proofs.Lists.{length-up_to}
use Rattle.curve.proofs.Records.{length-floats}

pub length_parts : (cp : Cubic) (w0 w1 : Float) (n : ℕ) → length (part_floats cp w0 w1 n) ≡ n * floats
unfolding part_floats
length_parts cp w0 w1 n = length-up_to (λ i. curve_floats (part_of cp w0 w1 n i)) floats n (λ i. length-floats (part_of cp w0 w1 n i))

pub length-segment : (l : List Float) (p : Params) (n seg : ℕ) → length (segment_floats l p n seg) ≡ part_count p.splitdepth * floats
unfolding segment_floats
length-segment l p n seg = length_parts _ _ _ _
