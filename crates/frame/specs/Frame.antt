-- The ray in the object's frame, and the curve in the ray's frame: `intersect` of src/shapes/curve.rs up to its first test. Definitions only.
use Rattle.std.specs.Prelude.{cond, Option, None, Some, option_map, Result, Ok, Err}
use Rattle.std.specs.Option.{option_zip}
use Rattle.std.specs.Float.Ieee.{eq}
use Rattle.float.specs.Arith.{◌⊗◌, 0f}
use Rattle.geometry.specs.declared.vector.Vector3f.{Vector3f}
use Rattle.geometry.specs.declared.point.Point3f.{Point3f}
use Rattle.geometry.specs.declared.ray.Ray.{Ray}
use Rattle.geometry.specs.Point.{difference, moved}
use Rattle.geometry.specs.Vector.{cross_of, length_squared, length_of, coordinate_system}
use Rattle.limits.specs.declared.refusal.Refusal.{Refusal}
use Rattle.limits.specs.declared.refusal.Refusal.TheVariants.{ZeroWeight, NoFrame}
use Rattle.matrix.specs.declared.Matrix4x4.{Matrix4x4}
use Rattle.transform.specs.declared.camera.Transform.{Transform}
use Rattle.transform.specs.LookAt.{look_at}
use Rattle.transform.specs.Point.{transform_point}
use Rattle.transform.specs.Ray.{transform_ray_error}
use Rattle.bezier.specs.declared.cubic.Cubic.{Cubic}
use Rattle.curve.specs.declared.curve.Curve.{Curve}
use Rattle.curve.specs.Curve.{control_points}
use Rattle.frame.specs.declared.frame.Aim.{Aim}
use Rattle.frame.specs.declared.frame.View.{View}
use Rattle.frame.specs.declared.frame.Framed.{Framed}

-- ---- the frame

-- v2 of vec3_coordinate_system
abbrev pub first_axis : Option (Vector3f × Vector3f) → Option Vector3f
first_axis (Some (v2, v3)) = Some v2
first_axis None = None

-- dx: ray.d × chord, or where its square is zero vec3_coordinate_system(ray.d)
unfoldable pub up_vector : Vector3f → Vector3f → Option Vector3f
up_vector d chord =
    let dx = cross_of d chord in
    cond (eq (length_squared dx) 0f) (first_axis (coordinate_system d)) (Some dx)

abbrev pub look_with_up : Ray → Option Vector3f → Option Transform
look_with_up ray (Some dx) = look_at ray.o (moved ray.o ray.d) dx
look_with_up ray None = None

-- o2r: look_at(ray.o, ray.o + ray.d, dx)
unfoldable pub ray_frame : Ray → Cubic → Option Transform
ray_frame ray cp = look_with_up ray (up_vector ray.d (difference cp.p3 cp.p0))

-- ---- the control points in it

-- two points and two more
abbrev pub four_points : (Point3f × Point3f) × (Point3f × Point3f) → Cubic
four_points p = record { p0 = p.0.0; p1 = p.0.1; p2 = p.1.0; p3 = p.1.1 }

-- transform_point of each
unfoldable pub projected_cubic : Matrix4x4 → Cubic → Option Cubic
projected_cubic m cp =
    option_map four_points (option_zip (option_zip (transform_point m cp.p0) (transform_point m cp.p1)) (option_zip (transform_point m cp.p2) (transform_point m cp.p3)))

-- ---- what is the same for every curve

-- ray_length and zmax
unfoldable pub aim_of : Ray → Aim
aim_of ray =
    let length = length_of ray.d in
    record { ray = ray; ray_length = length; zmax = length ⊗ ray.t_max }

-- the ray in the object's frame
unfoldable pub aimed_of : Matrix4x4 → Ray → Option Aim
aimed_of w2o r = option_map (λ t. aim_of t.ray) (transform_ray_error w2o r)

-- ---- what a leaf needs of the ray

unfoldable pub view_of : Aim → Transform → View
view_of a o2r = record { d = a.ray.d; ray_length = a.ray_length; zmax = a.zmax; o2r = o2r }

abbrev pub with_cubic : Aim → Transform → Option Cubic → Result Framed Refusal
with_cubic a o2r (Some cp) = Ok (record { ray = a.ray; view = view_of a o2r; cubic = cp })
with_cubic a o2r None = Err ZeroWeight

unfoldable pub in_ray_frame : Cubic → Aim → Transform → Result Framed Refusal
in_ray_frame cp a o2r = with_cubic a o2r (projected_cubic o2r.m cp)

abbrev pub with_frame : Cubic → Aim → Option Transform → Result Framed Refusal
with_frame cp a (Some o2r) = in_ray_frame cp a o2r
with_frame cp a None = Err NoFrame

-- the control points in the frame of a ray of the object's frame
unfoldable pub framed_points : Cubic → Aim → Result Framed Refusal
framed_points cp a = with_frame cp a (ray_frame a.ray cp)

-- ---- the curve in the ray's frame

unfoldable pub framed_along : Curve → Aim → Result Framed Refusal
framed_along c a = framed_points (control_points c) a

abbrev pub with_aim : Curve → Option Aim → Result Framed Refusal
with_aim c (Some a) = framed_along c a
with_aim c None = Err ZeroWeight

-- A weight of zero and a length of zero are told in the order in which the Rust meets them: the origin's weight,
-- vec3_coordinate_system, look_at, the control points' weights.
unfoldable pub framed_curve : Curve → Matrix4x4 → Ray → Result Framed Refusal
framed_curve c w2o r = with_aim c (aimed_of w2o r)
