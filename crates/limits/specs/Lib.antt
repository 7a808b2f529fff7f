pub mod Below
pub mod List
pub mod Ray
pub mod Refused
pub mod Within
