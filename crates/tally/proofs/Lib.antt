pub mod Grows
pub mod TallyCorrect
