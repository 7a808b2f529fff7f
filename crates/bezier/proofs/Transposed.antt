-- Nothing is lost between points and coordinates, and what is done to points is done to each coordinate on its own. Assumes nothing.
use Prim.Native.Nat.{ℕ, zero, suc, ◌≤◌}
use mathlib.Core.Path.{◌≡◌, refl}
use mathlib.Core.Bool.{Bool, true, false, cond}
use mathlib.Core.List.{List}
use native.Mathlib.Omega.{arith}
use lib.Ieee.{Float, lt}
use Rattle.float.specs.Arith.{◌⊕◌, ◌⊗◌, 0f, 3f}
use Rattle.geometry.specs.Point.{point_from, plus, difference, point_scaled, point_lerp}
use Rattle.geometry.specs.Vector.{vector_of, scaled, length_squared}
use Rattle.bezier.specs.Axis.{average_at2, average_at3, average_at4, low_at, high_at, eval_at}
use Rattle.bezier.specs.Cubic.{average_of2, average_of3, average_of4, low_of, high_of, derivative_of, eval_of}
use Rattle.bezier.specs.Points.{axis_in, cubic_in}
use Rattle.bezier.specs.Polygon.{component, axis_of, cubic_of}
use Rattle.bezier.specs.declared.axis.Step.{Step}
use Rattle.bezier.specs.declared.cubic.Eval.{Eval}

pub axis_in_lem : (l : List Float) (k : ℕ) → k ≤ 2 → axis_in l k ≡ axis_of (cubic_in l) k
unfolding axis_in axis_of component cubic_in point_from
axis_in_lem l zero h = refl
axis_in_lem l (suc zero) h = refl
axis_in_lem l (suc (suc zero)) h = refl
axis_in_lem l (suc (suc (suc k))) h = absurd (omega arith)

-- ---- halves

pub low_by_axes : (l : List Float) → cubic_of (low_at (axis_in l 0)) (low_at (axis_in l 1)) (low_at (axis_in l 2)) ≡ low_of (cubic_in l)
unfolding cubic_of low_at axis_in average_at2 average_at3 average_at4 low_of cubic_in point_from average_of2 average_of3 average_of4 plus point_scaled
low_by_axes l = refl

pub high_by_axes : (l : List Float) → cubic_of (high_at (axis_in l 0)) (high_at (axis_in l 1)) (high_at (axis_in l 2)) ≡ high_of (cubic_in l)
unfolding cubic_of high_at axis_in average_at2 average_at3 average_at4 high_of cubic_in point_from average_of2 average_of3 average_of4 plus point_scaled
high_by_axes l = refl

-- ---- the point and the derivative

-- which of two vectors, coordinate by coordinate
chosen : (t : Bool) (a b c d e f : Float) → cond t (vector_of a b c) (vector_of d e f) ≡ vector_of (cond t a d) (cond t b e) (cond t c f)
chosen true a b c d e f = refl
chosen false a b c d e f = refl

-- from the three coordinates
abbrev pub eval_by : Step → Step → Step → Eval
eval_by x y z =
    let moves = lt 0f (x.d ⊗ x.d ⊕ y.d ⊗ y.d ⊕ z.d ⊗ z.d) in
    record {
      p = record { x = x.p; y = y.p; z = z.p };
      d = vector_of (cond moves (x.d ⊗ 3f) x.chord) (cond moves (y.d ⊗ 3f) y.chord) (cond moves (z.d ⊗ 3f) z.chord);
    }

pub eval_by_axes : (l : List Float) (u : Float) → eval_of (cubic_in l) u ≡ eval_by (eval_at (axis_in l 0) u) (eval_at (axis_in l 1) u) (eval_at (axis_in l 2) u)
unfolding eval_of eval_at axis_in cubic_in point_from point_lerp derivative_of difference length_squared scaled
eval_by_axes l u = rw chosen
