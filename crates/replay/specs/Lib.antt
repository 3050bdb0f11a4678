pub mod AnswerText
pub mod Looks
pub mod Meant
pub mod Objects
pub mod Replayed
