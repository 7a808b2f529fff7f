pub mod Afresh
pub mod Choosing
pub mod Edit
pub mod OverList
pub mod Read
pub mod SetCorrect
pub mod Told
