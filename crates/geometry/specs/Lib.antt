pub mod Bounds
pub mod Normal
pub mod Pbrt
pub mod Point
pub mod Ray
pub mod Vector
