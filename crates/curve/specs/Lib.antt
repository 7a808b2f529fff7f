pub mod Curve
pub mod Layout
