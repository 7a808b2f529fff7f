-- The tests that throw a subcurve out. Definitions only.
use Rattle.std.specs.Prelude.{Bool, ◌||◌, Float}
use Rattle.std.specs.Float.Ieee.{lt}
use Rattle.float.specs.Arith.{◌⊕◌, ◌⊖◌, ◌⊗◌, 0f, half}
use Rattle.float.specs.Basic.{max_of}
use Rattle.bezier.specs.declared.axis.Axis.{Axis}
use Rattle.bezier.specs.declared.cubic.Cubic.{Cubic}
use Rattle.bezier.specs.Axis.{least_in, greatest_in}
use Rattle.bezier.specs.Polygon.{axis_of}
use Rattle.curve.specs.declared.curve.Curve.{Curve}
use Rattle.curve.specs.Curve.{width_at}
use Rattle.overlap.specs.declared.subcurve.Subcurve.{Subcurve}

-- 0.5 * max_width
unfoldable pub half_width : Curve → Float → Float → Float
half_width c u0 u1 = half ⊗ max_of (width_at c u0) (width_at c u1)

-- a coordinate of four points is off: the largest of the four + w < 0, or the least of the four - w > limit
unfoldable pub is_off : Axis → Float → Float → Bool
is_off a w limit = lt (greatest_in a ⊕ w) 0f || lt limit (least_in a ⊖ w)

unfoldable pub is_off_y : Cubic → Float → Bool
is_off_y cp w = is_off (axis_of cp 1) w 0f

unfoldable pub is_off_x : Cubic → Float → Bool
is_off_x cp w = is_off (axis_of cp 0) w 0f

unfoldable pub is_off_z : Cubic → Float → Float → Bool
is_off_z cp w zmax = is_off (axis_of cp 2) w zmax

-- the whole's test in z: the least of the four PLUS w > zmax
unfoldable pub is_off_z_whole : Axis → Float → Float → Bool
is_off_z_whole z w zmax = lt (greatest_in z ⊕ w) 0f || lt zmax (least_in z ⊕ w)

-- a half of half the width w is thrown out: the tests of recursive_intersect
unfoldable pub is_thrown_by : Float → Float → Cubic → Bool
is_thrown_by w zmax cp = is_off_y cp w || is_off_x cp w || is_off_z cp w zmax

unfoldable pub is_thrown : Curve → Float → Subcurve → Bool
is_thrown c zmax s = is_thrown_by (half_width c s.u0 s.u1) zmax s.cp

-- the whole is thrown out: the tests of intersect
unfoldable pub is_whole_thrown_by : Float → Float → Cubic → Bool
is_whole_thrown_by w zmax cp = is_off_y cp w || is_off_x cp w || is_off_z_whole (axis_of cp 2) w zmax

unfoldable pub is_whole_thrown : Curve → Float → Subcurve → Bool
is_whole_thrown c zmax s = is_whole_thrown_by (half_width c s.u0 s.u1) zmax s.cp
