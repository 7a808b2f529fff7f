-- A depth is at most 10. Assumes nothing.
use Prim.Native.Nat.{◌≤◌}
use native.Mathlib.Omega.{arith}
use Rattle.bezier.specs.declared.cubic.Cubic.{Cubic}
use Rattle.curve.specs.declared.curve.Curve.{Curve}
use Rattle.overlap.specs.Depth.{depth_at, depth_of}

pub depth_most : (c : Curve) (cp : Cubic) → depth_of c cp ≤ 10
unfolding depth_of depth_at
depth_most c cp = omega arith
