pub mod Axis
pub mod Corners
pub mod Cubic
pub mod Extent
pub mod Points
pub mod Polygon
