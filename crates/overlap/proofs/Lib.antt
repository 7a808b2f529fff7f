pub mod DepthMost
pub mod Lent
mod ThrownBy
