-- A leaf without a frame has the number 14, 15 or 16. Assumes nothing.
use mathlib.Core.Bool.{Bool, true, false, cond}
use mathlib.Core.Path.{◌≡◌, subst}
use Prim.Native.Nat.{◌≤◌}
use native.Mathlib.Omega.{arith}
use lib.Ieee.{Float}
use Rattle.std.specs.Prelude.{Option, Some, None, Result, Ok, Err}
use Rattle.geometry.specs.declared.vector.Vector3f.{Vector3f}
use Rattle.geometry.specs.Vector.{negated, normalized, cross_of}
use Rattle.limits.specs.declared.refusal.Refusal.{Refusal}
use Rattle.limits.specs.declared.refusal.Refusal.TheVariants.{ZeroDerivative}
use Rattle.limits.specs.Refused.{number_of}
use Rattle.bezier.specs.Cubic.{eval_of}
use Rattle.curve.specs.declared.curve.Curve.{Curve}
use Rattle.curve.specs.Curve.{width_at}
use Rattle.frame.specs.declared.frame.View.{View}
use Rattle.overlap.specs.declared.subcurve.Subcurve.{Subcurve}
use Rattle.leaf.specs.declared.leaf.Crossing.{Crossing}
use Rattle.leaf.specs.declared.leaf.Frame.{Frame}
use Rattle.leaf.specs.Leaf.{is_zero, crosswise_of, outward_of, with_wo, along_of, with_normal, with_dpdv, frame_of, Leaf, without_frame, with_crossing, crossing_of, leaf_of}

-- 14, 15 or 16
abbrev OfFrame : Refusal → Type 0
OfFrame k = (14 ≤ number_of k) × (number_of k ≤ 16)

-- a frame that is not there is refused so
abbrev FrameNumbered : Result Frame Refusal → Type 0
FrameNumbered (Ok f) = Unit {0}
FrameNumbered (Err k) = OfFrame k

frame-numbered : (c : Curve) (v : View) (u : Float) → FrameNumbered (frame_of c v u)
unfolding frame_of along_of outward_of
frame-numbered c v u = zero? (is_zero dpdu)
  where
    dpdu : Vector3f
    dpdu = (eval_of c.cp u).d

    wo : (dpdv n : Vector3f) (w : Option Vector3f) → FrameNumbered (with_wo dpdu dpdv n w)
    wo dpdv n (Some w) = tt
    wo dpdv n None = (omega arith, omega arith)

    normal : (dpdv : Vector3f) (n : Option Vector3f) → FrameNumbered (with_normal v.d dpdu dpdv n)
    normal dpdv (Some n) = wo dpdv n (normalized (negated v.d))
    normal dpdv None = (omega arith, omega arith)

    crosswise : (w : Option Vector3f) → FrameNumbered (with_dpdv v.d dpdu w)
    crosswise (Some w) = normal w (normalized (cross_of dpdu w))
    crosswise None = (omega arith, omega arith)

    zero? : (b : Bool) → FrameNumbered (cond b (Err ZeroDerivative) (with_dpdv v.d dpdu (crosswise_of v.o2r dpdu (width_at c u))))
    zero? true = (omega arith, omega arith)
    zero? false = crosswise (crosswise_of v.o2r dpdu (width_at c u))

-- so is a leaf
abbrev LeafNumbered : Leaf → Type 0
LeafNumbered (Some m) = FrameNumbered m.frame
LeafNumbered None = Unit {0}

leaf-numbered : (c : Curve) (v : View) (s : Subcurve) → LeafNumbered (leaf_of c v s)
unfolding leaf_of
leaf-numbered c v s = crossed (crossing_of c v s)
  where
    crossed : (x : Option Crossing) → LeafNumbered (with_crossing c v x)
    crossed (Some at) = frame-numbered c v at.u
    crossed None = tt

-- a leaf without a frame has the number 14, 15 or 16
pub no_frame : (c : Curve) (v : View) (s : Subcurve) (at : Crossing) (k : Refusal) → leaf_of c v s ≡ without_frame at k → (14 ≤ number_of k) × (number_of k ≤ 16)
no_frame c v s at k e = subst LeafNumbered e (leaf-numbered c v s)
