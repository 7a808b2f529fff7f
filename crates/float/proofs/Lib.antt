pub mod Associative
pub mod Bound
pub mod Compare
pub mod Constants
pub mod NanDropped
pub mod NarrowCorrect
pub mod Order
pub mod SqrtCorrect
pub mod WholeCorrect
mod Closest
mod Fields
mod Isqrt
mod Narrowing
mod Nearest
mod NearestRoot
mod Opposite
mod Pattern
mod Product
mod Rooting
mod Shapes
mod StdRoot
pub mod Signs
