pub mod Below
pub mod Best
pub mod Nodes
pub mod Walked
