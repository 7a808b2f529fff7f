-- The leaf: recursive_intersect at depth 0. Definitions only. Nothing of the ray's time or of the flag is in it.
use Rattle.std.specs.Prelude.{Bool, cond, ◌||◌, ◌&&◌, Option, Some, None, Result, Ok, Err, Float}
use Rattle.std.specs.Float.Ieee.{lt, eq, neg}
use Rattle.float.specs.Arith.{◌⊕◌, ◌⊖◌, ◌⊗◌, ◌⊘◌, 0f, 1f, half, quarter}
use Rattle.float.specs.Root.{sqrt_of}
use Rattle.geometry.specs.declared.point.Point3f.{Point3f}
use Rattle.geometry.specs.declared.vector.Vector2f.{Vector2f}
use Rattle.geometry.specs.declared.vector.Vector3f.{Vector3f}
use Rattle.geometry.specs.Pbrt.{lerp_of, clamp_of}
use Rattle.geometry.specs.Point.{difference2}
use Rattle.geometry.specs.Vector.{negated2, dot2, length_squared2, negated, scaled, normalized, cross_of}
use Rattle.limits.specs.declared.refusal.Refusal.{Refusal}
use Rattle.limits.specs.declared.refusal.Refusal.TheVariants.{ZeroDerivative, ZeroAcross, ZeroNormal}
use Rattle.transform.specs.declared.camera.Transform.{Transform}
use Rattle.transform.specs.Vector.{transform_vector}
use Rattle.bezier.specs.declared.cubic.Cubic.{Cubic}
use Rattle.bezier.specs.declared.cubic.Eval.{Eval}
use Rattle.bezier.specs.Cubic.{eval_of}
use Rattle.curve.specs.declared.curve.Curve.{Curve}
use Rattle.curve.specs.Curve.{width_at}
use Rattle.frame.specs.declared.frame.View.{View}
use Rattle.overlap.specs.declared.subcurve.Subcurve.{Subcurve}
use Rattle.leaf.specs.declared.leaf.Crossing.{Crossing}
use Rattle.leaf.specs.declared.leaf.Frame.{Frame}
use Rattle.leaf.specs.declared.leaf.Met.{Met}

-- ---- the tests

-- segment_dir
unfoldable pub segment_dir : Cubic → Vector2f
segment_dir cp = difference2 (record { x = cp.p3.x; y = cp.p3.y }) (record { x = cp.p0.x; y = cp.p0.y })

-- (next.y - end.y) * -end.y + end.x * (end.x - next.x)
unfoldable pub edge_at : Point3f → Point3f → Float
edge_at end next = (next.y ⊖ end.y) ⊗ neg end.y ⊕ end.x ⊗ (end.x ⊖ next.x)

-- (cp[1].y - cp[0].y) * -cp[0].y + cp[0].x * (cp[0].x - cp[1].x)
abbrev pub edge_start : Cubic → Float
edge_start cp = edge_at cp.p0 cp.p1

-- (cp[2].y - cp[3].y) * -cp[3].y + cp[3].x * (cp[3].x - cp[2].x)
abbrev pub edge_end : Cubic → Float
edge_end cp = edge_at cp.p3 cp.p2

-- w: (-Vector2f::new(cp[0].x, cp[0].y)).dot(&segment_dir) / denom
unfoldable pub line_at : Cubic → Vector2f → Float → Float
line_at cp dir denom = dot2 (negated2 (record { x = cp.p0.x; y = cp.p0.y })) dir ⊘ denom

-- v, from the point and the derivative nearest the ray and the square of their distance
unfoldable pub v_of : Eval → Float → Float → Float
v_of pc dist2 width =
    let part = sqrt_of dist2 ⊘ width in
    cond (lt 0f (pc.d.x ⊗ neg pc.p.y ⊕ pc.p.x ⊗ pc.d.y)) (half ⊕ part) (half ⊖ part)

-- the tests from `u` on: farther from the ray than half the width, behind it or beyond zmax
unfoldable pub crossing_at : Curve → View → Subcurve → Float → Option Crossing
crossing_at c v s w =
    let u = clamp_of (lerp_of w s.u0 s.u1) s.u0 s.u1 in
    let width = width_at c u in
    let pc = eval_of s.cp (clamp_of w 0f 1f) in
    let dist2 = pc.p.x ⊗ pc.p.x ⊕ pc.p.y ⊗ pc.p.y in
    cond (lt (width ⊗ width ⊗ quarter) dist2 || lt pc.p.z 0f || lt v.zmax pc.p.z) None
    (Some (record { t = pc.p.z ⊘ v.ray_length; u = u; v = v_of pc dist2 width }))

-- all the tests, in the Rust's order
unfoldable pub crossing_of : Curve → View → Subcurve → Option Crossing
crossing_of c v s =
    let dir = segment_dir s.cp in
    let denom = length_squared2 dir in
    cond (lt (edge_start s.cp) 0f || lt (edge_end s.cp) 0f || eq denom 0f) None (crossing_at c v s (line_at s.cp dir denom))

-- ---- the frame

-- dpdu == Vector3f::default()
abbrev pub is_zero : Vector3f → Bool
is_zero v = eq v.x 0f && eq v.y 0f && eq v.z 0f

-- r2o.transform_vector(&(dpdv_plane.normalize() * hit_width)), where o2r.m_inv is r2o's matrix
abbrev pub back_from : Transform → Float → Option Vector3f → Option Vector3f
back_from o2r width (Some v) = Some (transform_vector o2r.m_inv (scaled v width))
back_from o2r width None = None

-- dpdv
unfoldable pub crosswise_of : Transform → Vector3f → Float → Option Vector3f
crosswise_of o2r dpdu width =
    let plane = transform_vector o2r.m dpdu in
    back_from o2r width (normalized (record { x = neg plane.y; y = plane.x; z = 0f }))

abbrev pub with_wo : Vector3f → Vector3f → Vector3f → Option Vector3f → Result Frame Refusal
with_wo dpdu dpdv n (Some wo) = Ok (record { dpdu = dpdu; dpdv = dpdv; n = n; wo = wo })
with_wo dpdu dpdv n None = Err ZeroNormal

-- wo: (-ray.d).normalize()
unfoldable pub outward_of : Vector3f → Vector3f → Vector3f → Vector3f → Result Frame Refusal
outward_of d dpdu dpdv n = with_wo dpdu dpdv n (normalized (negated d))

abbrev pub with_normal : Vector3f → Vector3f → Vector3f → Option Vector3f → Result Frame Refusal
with_normal d dpdu dpdv (Some n) = outward_of d dpdu dpdv n
with_normal d dpdu dpdv None = Err ZeroNormal

-- n: dpdu.cross(dpdv).normalize()
unfoldable pub along_of : Vector3f → Vector3f → Vector3f → Result Frame Refusal
along_of d dpdu dpdv = with_normal d dpdu dpdv (normalized (cross_of dpdu dpdv))

abbrev pub with_dpdv : Vector3f → Vector3f → Option Vector3f → Result Frame Refusal
with_dpdv d dpdu (Some dpdv) = along_of d dpdu dpdv
with_dpdv d dpdu None = Err ZeroAcross

-- The frame at u, or why there is none: no derivative, nothing across it, no normal, tried in that order. dpdu is the
-- derivative of the Bezier segment's own four points.
unfoldable pub frame_of : Curve → View → Float → Result Frame Refusal
frame_of c v u =
    let dpdu = (eval_of c.cp u).d in
    cond (is_zero dpdu) (Err ZeroDerivative) (with_dpdv v.d dpdu (crosswise_of v.o2r dpdu (width_at c u)))

-- ---- the leaf

-- what a leaf answers: where it meets the ray and the frame there, and nothing where a test fails
abbrev pub Leaf : Type 0
Leaf = Option Met

-- it passes, and has this frame
abbrev pub with_frame : Crossing → Frame → Leaf
with_frame at f = Some (record { at = at; frame = Ok f })

-- it passes, and for this reason has no frame
abbrev pub without_frame : Crossing → Refusal → Leaf
without_frame at k = Some (record { at = at; frame = Err k })

abbrev pub with_crossing : Curve → View → Option Crossing → Leaf
with_crossing c v (Some at) = Some (record { at = at; frame = frame_of c v at.u })
with_crossing c v None = None

-- A leaf's answer, from the subcurve and what the walk holds fixed alone.
unfoldable pub leaf_of : Curve → View → Subcurve → Leaf
leaf_of c v s = with_crossing c v (crossing_of c v s)
