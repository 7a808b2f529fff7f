-- A curve is framed, but for a weight or a length of zero. Assumes nothing.
use Rattle.std.proofs.Common.{◌≡◌, ◌⊎◌, Option, None, Some, Result, Ok, Err, refl, subst}
use mathlib.Core.Logic.{inl, inr}
use Rattle.geometry.specs.declared.ray.Ray.{Ray}
use Rattle.matrix.specs.declared.Matrix4x4.{Matrix4x4}
use Rattle.transform.specs.declared.camera.Transform.{Transform}
use Rattle.bezier.specs.declared.cubic.Cubic.{Cubic}
use Rattle.curve.specs.declared.curve.Curve.{Curve}
use Rattle.curve.specs.Curve.{control_points}
use Rattle.limits.specs.declared.refusal.Refusal.{Refusal}
use Rattle.limits.specs.declared.refusal.Refusal.TheVariants.{ZeroWeight, NoFrame}
use Rattle.frame.specs.declared.frame.Aim.{Aim}
use Rattle.frame.specs.declared.frame.Framed.{Framed}
use Rattle.frame.specs.Frame.{ray_frame, projected_cubic, aimed_of, with_cubic, in_ray_frame, with_frame, framed_points, framed_along, with_aim, framed_curve}

-- what is not framed is refused for one of the two
abbrev Unframed : Result Framed Refusal → Type 0
Unframed (Ok f) = Unit {0}
Unframed (Err reason) = (reason ≡ ZeroWeight) ⊎ (reason ≡ NoFrame)

by_cubic : (a : Aim) (o2r : Transform) (p : Option Cubic) → Unframed (with_cubic a o2r p)
by_cubic a o2r (Some cp) = tt
by_cubic a o2r None = inl refl

by_transform : (cp : Cubic) (a : Aim) (t : Option Transform) → Unframed (with_frame cp a t)
unfolding in_ray_frame
by_transform cp a (Some o2r) = by_cubic a o2r (projected_cubic o2r.m cp)
by_transform cp a None = inr refl

by_aim : (c : Curve) (a : Option Aim) → Unframed (with_aim c a)
unfolding framed_along framed_points
by_aim c (Some a) = by_transform (control_points c) a (ray_frame a.ray (control_points c))
by_aim c None = inl refl

pub unframed : (c : Curve) (w2o : Matrix4x4) (r : Ray) (k : Refusal) → framed_curve c w2o r ≡ Err k → (k ≡ ZeroWeight) ⊎ (k ≡ NoFrame)
unfolding framed_curve
unframed c w2o r k e = subst Unframed e (by_aim c (aimed_of w2o r))
