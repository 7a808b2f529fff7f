pub mod Bounds
pub mod Handedness
pub mod LookAt
pub mod Point
pub mod Ray
pub mod Row
pub mod Vector
