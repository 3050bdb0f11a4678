pub mod Breaches
pub mod Worklists
pub mod Labels
pub mod Sets
pub mod Walks
pub mod Filled
pub mod Whole
pub mod Answers
