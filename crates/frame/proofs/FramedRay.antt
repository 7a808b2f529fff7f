-- The ray of a framed curve is the one that it was framed by. Assumes nothing.
use Rattle.std.proofs.Common.{◌≡◌, Option, None, Some, Result, Ok, Err, refl, sym, ap, ◌∙◌}
use Rattle.geometry.specs.declared.ray.Ray.{Ray}
use Rattle.transform.specs.declared.camera.Transform.{Transform}
use Rattle.bezier.specs.declared.cubic.Cubic.{Cubic}
use Rattle.curve.specs.declared.curve.Curve.{Curve}
use Rattle.limits.specs.declared.refusal.Refusal.{Refusal}
use Rattle.frame.specs.declared.frame.Aim.{Aim}
use Rattle.frame.specs.declared.frame.Framed.{Framed}
use Rattle.frame.specs.Frame.{ray_frame, projected_cubic, with_cubic, in_ray_frame, with_frame, framed_points, framed_along}

-- a framed curve's ray, or another where there is none
abbrev ray_or : Ray → Result Framed Refusal → Ray
ray_or ray (Ok f) = f.ray
ray_or ray (Err e) = ray

module _ (a : Aim) where
  by_cubic : (o2r : Transform) (p : Option Cubic) → ray_or a.ray (with_cubic a o2r p) ≡ a.ray
  by_cubic o2r (Some cp) = refl
  by_cubic o2r None = refl

  by_frame : (cp : Cubic) (l : Option Transform) → ray_or a.ray (with_frame cp a l) ≡ a.ray
  unfolding in_ray_frame
  by_frame cp (Some o2r) = by_cubic o2r (projected_cubic o2r.m cp)
  by_frame cp None = refl

  pub framed-ray : (c : Curve) (f : Framed) → framed_along c a ≡ Ok f → f.ray ≡ a.ray
  unfolding framed_along framed_points
  framed-ray c f e = sym (ap (ray_or a.ray) e) ∙ by_frame _ (ray_frame a.ray _)
