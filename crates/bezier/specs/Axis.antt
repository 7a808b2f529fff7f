-- One coordinate of a curve's control points, for functions inside. Definitions only.
use Rattle.std.specs.Prelude.{Float}
use Rattle.float.specs.Arith.{◌⊕◌, ◌⊖◌, ◌⊗◌, ◌⊘◌, 1f, 2f, 3f, 4f, 8f}
use Rattle.float.specs.Basic.{max_of, min_of}
use Rattle.geometry.specs.Pbrt.{lerp_of}
use Rattle.bezier.specs.declared.axis.Axis.{Axis}
use Rattle.bezier.specs.declared.axis.Step.{Step}

-- a coordinate of `blossom_of`
unfoldable pub blossom_at : Axis → Float → Float → Float → Float
blossom_at p u0 u1 u2 =
    let a0 = lerp_of u0 p.p0 p.p1 in
    let a1 = lerp_of u0 p.p1 p.p2 in
    let a2 = lerp_of u0 p.p2 p.p3 in
    let b0 = lerp_of u1 a0 a1 in
    let b1 = lerp_of u1 a1 a2 in
    lerp_of u2 b0 b1

-- a coordinate of `control_points`
unfoldable pub between : Axis → Float → Float → Axis
between p umin umax =
    record { p0 = blossom_at p umin umin umin; p1 = blossom_at p umin umin umax; p2 = blossom_at p umin umax umax; p3 = blossom_at p umax umax umax }

-- a coordinate of `average_of2`, of `average_of3` and of `average_of4`
unfoldable pub average_at2 : Float → Float → Float
average_at2 a b = (a ⊕ b) ⊗ (1f ⊘ 2f)

unfoldable pub average_at3 : Float → Float → Float → Float
average_at3 a b c = (a ⊕ b ⊗ 2f ⊕ c) ⊗ (1f ⊘ 4f)

unfoldable pub average_at4 : Float → Float → Float → Float → Float
average_at4 a b c d = (a ⊕ b ⊗ 3f ⊕ c ⊗ 3f ⊕ d) ⊗ (1f ⊘ 8f)

-- a coordinate of `low_of`, and of `high_of`
unfoldable pub low_at : Axis → Axis
low_at p = record { p0 = p.p0; p1 = average_at2 p.p0 p.p1; p2 = average_at3 p.p0 p.p1 p.p2; p3 = average_at4 p.p0 p.p1 p.p2 p.p3 }

unfoldable pub high_at : Axis → Axis
high_at p = record { p0 = average_at4 p.p0 p.p1 p.p2 p.p3; p1 = average_at3 p.p1 p.p2 p.p3; p2 = average_at2 p.p2 p.p3; p3 = p.p3 }

-- a coordinate of what `eval_of` is made of: the point, the step between the last two points of the construction, and the chord
unfoldable pub eval_at : Axis → Float → Step
eval_at p u =
    let a0 = lerp_of u p.p0 p.p1 in
    let a1 = lerp_of u p.p1 p.p2 in
    let a2 = lerp_of u p.p2 p.p3 in
    let b0 = lerp_of u a0 a1 in
    let b1 = lerp_of u a1 a2 in
    record { p = lerp_of u b0 b1; d = b1 ⊖ b0; chord = p.p3 ⊖ p.p0 }

unfoldable pub least_in : Axis → Float
least_in a = min_of (min_of a.p0 a.p1) (min_of a.p2 a.p3)

unfoldable pub greatest_in : Axis → Float
greatest_in a = max_of (max_of a.p0 a.p1) (max_of a.p2 a.p3)
