pub mod FramedRay
pub mod Unframed
pub mod ViewBack
