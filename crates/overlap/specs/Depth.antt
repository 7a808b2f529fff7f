-- The depth of refinement: how often a curve is cut in two. Definitions only. Callers cite `depth_of` alone.
use Rattle.std.specs.Prelude.{cond, ℕ, ◌+◌, ◌-◌, ◌/◌, ◌%◌, ◌^◌, min, Float}
use Rattle.std.specs.Float.{binary32}
use Rattle.std.specs.Float.Ieee.{of_bits, to_bits, lt}
use Rattle.float.specs.Arith.{◌⊕◌, ◌⊖◌, ◌⊗◌, ◌⊘◌, 0f, 1f, 2f, 6f, 8f}
use Rattle.float.specs.Basic.{abs_of, max_of}
use Rattle.geometry.specs.declared.point.Point3f.{Point3f}
use Rattle.bezier.specs.declared.cubic.Cubic.{Cubic}
use Rattle.curve.specs.declared.curve.Curve.{Curve}

-- 1.41421356237 and 0.05
abbrev pub root_of_two : Float
root_of_two = of_bits binary32 0x3fb504f3

abbrev pub twentieth : Float
twentieth = of_bits binary32 0x3d4ccccd

-- |a - 2.0 * b + c|
unfoldable pub bend : Float → Float → Float → Float
bend a b c = abs_of (a ⊖ 2f ⊗ b ⊕ c)

unfoldable pub bends_at : Point3f → Point3f → Point3f → Float
bends_at a b c = max_of (max_of (bend a.x b.x c.x) (bend a.y b.y c.y)) (bend a.z b.z c.z)

-- L0: the largest, from 0 up
unfoldable pub greatest_bend : Cubic → Float
greatest_bend cp = max_of (max_of 0f (bends_at cp.p0 cp.p1 cp.p2)) (bends_at cp.p1 cp.p2 cp.p3)

-- v: 1.41421356237 * 6.0 * L0 / (8.0 * eps), where eps is 0.05 times the larger width
unfoldable pub flatness : Curve → Cubic → Float
flatness c cp = root_of_two ⊗ 6f ⊗ greatest_bend cp ⊘ (8f ⊗ (max_of c.width0 c.width1 ⊗ twentieth))

-- the exponent field less 127
unfoldable pub exponent_of : ℕ → ℕ
exponent_of field = field - 127

-- The log: 0 below 1, else the exponent plus the lowest bit of the pattern. A NaN is not below 1, and its exponent is 128.
unfoldable pub log_of : Float → ℕ
log_of v = cond (lt v 1f) 0 (exponent_of (to_bits binary32 v / 2 ^ 23) + to_bits binary32 v % 2)

-- half the log, cut to whole, at most 10
unfoldable pub depth_at : Float → ℕ
depth_at v = min (log_of v / 2) 10

unfoldable pub depth_of : Curve → Cubic → ℕ
depth_of c cp = depth_at (flatness c cp)
