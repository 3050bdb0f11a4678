pub mod NewObjects
pub mod OfLines
pub mod PlayedBack
pub mod ReadLines
pub mod ReadWords
