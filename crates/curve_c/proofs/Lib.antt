pub mod Answers
pub mod SetAnswers
