-- The marked examples M1 to M13, proved together. Assumes nothing.
use mathlib.Core.Path.{◌≡◌, refl}
use mathlib.Core.List.{List, map}
use Prim.Native.Nat.{ℕ}
use lib.Ieee.{of_int, of_bits, to_bits, of_fields, odd, lt, eq, le, add, sub, mul, div, neg, sum, round, units, size, span, climb}
use lib.Count.{count_trailing_zeros}
use Rattle.float.specs.Basic.{abs_of}
use Rattle.geometry.specs.Pbrt.{lerp_of}
use Rattle.geometry.specs.Point.{point_from, point_lerp, points_equal}
use Rattle.limits.specs.Below.{all_below}
use Rattle.limits.specs.Within.{within, width_within}
use Rattle.limits.specs.List.{over, up_to}
use Rattle.limits.specs.Refused.{first_of}
use Rattle.curve.specs.Layout.{curve_floats}
use Rattle.create.specs.Basis.{stride_of, segment_at, bezier_segment, elevated}
use Rattle.create.specs.Create.{divisible, count_wrong, segment_count, part_count, curve_count, equals_next, neighbours_differ, all_within, limit_wrong, limit_refusals, create_refusals, ratio, part_of, part_floats, end_width, segment_floats, created_floats, created_of, list_after}
use Rattle.overlap.specs.Depth.{exponent_of, log_of, depth_at}
use Rattle.marked.specs.Marked.{instances}

pub marked : map (λ (row : List ℕ × List ℕ). row.0) instances ≡ map (λ (row : List ℕ × List ℕ). row.1) instances
unfolding of_int of_bits to_bits of_fields odd lt eq le add sub mul div neg sum round units size span climb count_trailing_zeros abs_of lerp_of point_from point_lerp points_equal all_below within width_within over up_to first_of curve_floats stride_of segment_at bezier_segment elevated divisible count_wrong segment_count part_count curve_count equals_next neighbours_differ all_within limit_wrong limit_refusals create_refusals ratio part_of part_floats end_width segment_floats created_floats created_of list_after exponent_of log_of depth_at
marked = refl
