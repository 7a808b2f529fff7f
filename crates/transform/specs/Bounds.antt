-- Boxes under a matrix: transform_bounds of src/core/transform.rs. Definitions only.
use Rattle.std.specs.Prelude.{Option, None, Some, Float}
use Rattle.geometry.specs.declared.bounds.Bounds3f.{Bounds3f}
use Rattle.geometry.specs.declared.point.Point3f.{Point3f}
use Rattle.geometry.specs.Bounds.{bounds_at, with_point}
use Rattle.matrix.specs.declared.Matrix4x4.{Matrix4x4}
use Rattle.transform.specs.Point.{transform_point}

-- Bounds3f::from_point(self.transform_point(p))
abbrev pub started : Option Point3f → Option Bounds3f
started (Some p) = Some (bounds_at p)
started None = None

unfoldable pub starting_at : Matrix4x4 → Point3f → Option Bounds3f
starting_at m p = started (transform_point m p)

-- ret.union_point(self.transform_point(p))
abbrev pub joined : Option Bounds3f → Option Point3f → Option Bounds3f
joined (Some b) (Some p) = Some (with_point b p)
joined (Some b) None = None
joined None p = None

unfoldable pub including : Matrix4x4 → Option Bounds3f → Point3f → Option Bounds3f
including m b p = joined b (transform_point m p)

unfoldable pub point_of : Float → Float → Float → Point3f
point_of x y z = record { x = x; y = y; z = z }

-- transform_bounds: the corners in the order of the Rust
unfoldable pub transform_bounds : Matrix4x4 → Bounds3f → Option Bounds3f
transform_bounds m b =
    let low = b.p_min in
    let high = b.p_max in
    let b0 = starting_at m low in
    let b1 = including m b0 (point_of high.x low.y low.z) in
    let b2 = including m b1 (point_of low.x high.y low.z) in
    let b3 = including m b2 (point_of low.x low.y high.z) in
    let b4 = including m b3 (point_of low.x high.y high.z) in
    let b5 = including m b4 (point_of high.x high.y low.z) in
    let b6 = including m b5 (point_of high.x low.y high.z) in
    including m b6 high
