pub mod Leaves
pub mod Rule
pub mod Steps
pub mod Walk
