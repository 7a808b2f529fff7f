pub mod Depth
pub mod Subcurve
pub mod Thrown
