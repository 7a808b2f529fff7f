-- Limits on floats, matrices and rays. Definitions only.
use Rattle.std.specs.Prelude.{Bool, ◌&&◌, Float}
use Rattle.std.specs.Float.{binary32}
use Rattle.std.specs.Float.Ieee.{of_bits, le}
use Rattle.float.specs.Arith.{0f}
use Rattle.float.specs.Basic.{abs_of}
use Rattle.geometry.specs.declared.ray.Ray.{Ray}
use Rattle.matrix.specs.declared.Row.{Row}
use Rattle.matrix.specs.declared.Matrix4x4.{Matrix4x4}

-- 1,048,576
abbrev pub largest : Float
largest = of_bits binary32 0x49800000

-- x is finite and within ±limit: a NaN's and an infinity's comparison fails
unfoldable pub within : Float → Float → Bool
within x limit = le (abs_of x) limit

-- w is from least to most
unfoldable pub width_within : Float → Float → Float → Bool
width_within w least most = le least w && le w most

unfoldable pub row_within : Row → Bool
row_within r = within r.c0 largest && within r.c1 largest && within r.c2 largest && within r.c3 largest

-- every entry is finite and within ±1,048,576: what passes refusal 10
unfoldable pub matrix_within : Matrix4x4 → Bool
matrix_within m = row_within m.r0 && row_within m.r1 && row_within m.r2 && row_within m.r3

-- an origin, a direction and a time that are finite and within ±1,048,576, and a t_max that is not below 0: what passes refusal 11
unfoldable pub ray_within : Ray → Bool
ray_within r =
    within r.o.x largest && within r.o.y largest && within r.o.z largest && within r.d.x largest && within r.d.y largest && within r.d.z largest
    && within r.time largest
    && le 0f r.t_max
