-- create_curve_shape and create_curve of src/shapes/curve.rs. Definitions only.
use Rattle.std.specs.Prelude.{ℕ, ◌+◌, ◌-◌, ◌*◌, ◌/◌, ◌%◌, ◌^◌, Bool, cond, not, ◌&&◌, ◌||◌, List, [], ◌∷◌, Result, Ok, eqb, leb, ltb, ℤ, pos, nat_abs, ◌-ℤ◌, length, get_or, Float}
use Rattle.std.specs.Float.{nan, binary32}
use Rattle.std.specs.Float.Ieee.{of_int, of_bits}
use Rattle.float.specs.Arith.{◌⊘◌}
use Rattle.geometry.specs.Pbrt.{lerp_of}
use Rattle.geometry.specs.Point.{point_from, points_equal}
use Rattle.limits.specs.Below.{all_below}
use Rattle.limits.specs.List.{over, up_to}
use Rattle.limits.specs.Refused.{Table, first_of, told, told_by}
use Rattle.limits.specs.declared.refusal.Refusal.{Refusal}
use Rattle.limits.specs.declared.refusal.Refusal.TheVariants as refusal
use Rattle.curve.specs.Layout.{floats, curve_floats}
use Rattle.limits.specs.Within.{within, width_within}
use Rattle.limits.specs.Within.{largest}
use Rattle.create.specs.Basis.{stride_of, segment_at}
use Rattle.bezier.specs.declared.cubic.Cubic.{Cubic}
use Rattle.curve.specs.declared.curve.Curve.{Curve}
use Rattle.create.specs.declared.create.Params.{Params}

abbrev pub params_of : ℕ → ℕ → ℕ → Float → Float → ℕ → Params
params_of degree basis ty w0 w1 splitdepth = record { degree = degree; basis = basis; ty = ty; width0 = w0; width1 = w1; splitdepth = splitdepth }

-- ---- how many

-- k divides z: the Rust's z % k == 0
unfoldable pub divisible : ℤ → ℕ → Bool
divisible z k = eqb (nat_abs z % k) 0

-- Floats not in threes, or: the Bezier basis needs n - 1 - degree divisible by the degree, and the B-spline basis n > degree.
unfoldable pub count_wrong : ℕ → ℕ → ℕ → Bool
count_wrong length degree basis =
    let n = length / 3 in
    not (eqb (length % 3) 0) || cond (eqb basis 0) (not (divisible (pos n -ℤ pos 1 -ℤ pos degree) degree)) (leb n degree)

-- nsegments
unfoldable pub segment_count : ℕ → ℕ → ℕ → ℕ
segment_count n degree basis = cond (eqb basis 0) ((n - 1) / degree) (n - degree)

-- the parts of a segment
unfoldable pub part_count : ℕ → ℕ
part_count splitdepth = 2 ^ splitdepth

-- the curves of all segments of n points
unfoldable pub curve_count : ℕ → Params → ℕ
curve_count n p = segment_count n p.degree p.basis * part_count p.splitdepth

-- ---- refusals

-- point i, of three floats, equals the next one
unfoldable pub equals_next : List Float → ℕ → Bool
equals_next l i = points_equal (point_from l (3 * i)) (point_from l (3 * i + 3))

-- no point equals the next one: what passes 22
unfoldable pub neighbours_differ : List Float → Bool
neighbours_differ l = all_below (length l / 3 - 1) (λ i. not (equals_next l i))

-- every coordinate is finite and within ±1,048,576
unfoldable pub all_within : List Float → Bool
all_within l = all_below (length l) (λ i. within (get_or l i nan) largest)

-- 1/1024 and 1,024
abbrev pub least_width : Float
least_width = of_bits binary32 0x3a800000

abbrev pub greatest_width : Float
greatest_width = of_bits binary32 0x44800000

unfoldable pub limit_wrong : List Float → Float → Float → Bool
limit_wrong l w0 w1 = not (all_within l && width_within w0 least_width greatest_width && width_within w1 least_width greatest_width)

-- 256 points and 1,024 curves
abbrev pub most_points : ℕ
most_points = 256

abbrev pub most_curves : ℕ
most_curves = 1024

-- 6 to 8, for a list with room for so many floats
unfoldable pub limit_refusals : List Float → Params → ℕ → Table
limit_refusals l p room =
    let n = length l / 3 in
    (ltb most_points n || ltb most_curves (curve_count n p), refusal.TooMany) ∷ (limit_wrong l p.width0 p.width1, refusal.PointsOrWidths) ∷ (ltb room (floats * curve_count n p), refusal.ListTooShort) ∷ []

-- 1 to 3, 22, and 4 to 8
unfoldable pub create_refusals : List Float → Params → ℕ → Table
create_refusals l p room =
    (not (eqb p.degree 2 || eqb p.degree 3), refusal.Degree)
    ∷ (ltb 1 p.basis, refusal.Basis)
    ∷ (count_wrong (length l) p.degree p.basis, refusal.PointCount)
    ∷ (not (neighbours_differ l), refusal.EqualNeighbours)
    ∷ (not (eqb p.ty 0), refusal.«Type»)
    ∷ (ltb 10 p.splitdepth, refusal.SplitDepth)
    ∷ limit_refusals l p room

-- ---- the curves

-- a as Float / b as Float
unfoldable pub ratio : ℕ → ℕ → Float
ratio a b = of_int binary32 (pos a) ⊘ of_int binary32 (pos b)

-- part i of n of a segment
unfoldable pub part_of : Cubic → Float → Float → ℕ → ℕ → Curve
part_of cp w0 w1 n i = record { cp = cp; width0 = w0; width1 = w1; umin = ratio i n; umax = ratio (i + 1) n }

-- create_curve: all parts
unfoldable pub part_floats : Cubic → Float → Float → ℕ → List Float
part_floats cp w0 w1 n = up_to (λ i. curve_floats (part_of cp w0 w1 n i)) n

-- the width at the end of seg segments of n
unfoldable pub end_width : Params → ℕ → ℕ → Float
end_width p n seg = lerp_of (ratio seg n) p.width0 p.width1

-- all parts of segment seg of n
unfoldable pub segment_floats : List Float → Params → ℕ → ℕ → List Float
segment_floats l p n seg =
    let cp = segment_at l p.degree p.basis (seg * stride_of p.degree p.basis) in
    part_floats cp (end_width p n seg) (end_width p n (seg + 1)) (part_count p.splitdepth)

-- all parts of n segments
unfoldable pub created_floats : List Float → Params → ℕ → List Float
created_floats l p n = up_to (segment_floats l p n) n

-- ---- the answer, and the list afterwards

unfoldable pub created_of : List Float → Params → ℕ → Result ℕ Refusal
created_of l p room = told (first_of (create_refusals l p room)) (Ok (curve_count (length l / 3) p))

-- A refusal leaves the list as it was. An acceptance writes the curves' floats from its start, and leaves the rest.
unfoldable pub list_after : List Float → Params → List Float → List Float
list_after l p list =
    told_by (λ reason. list) (first_of (create_refusals l p (length list)))
    (over list 0 (created_floats l p (segment_count (length l / 3) p.degree p.basis)))
