pub mod Told
pub mod Transfer
