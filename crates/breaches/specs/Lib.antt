pub mod Charts
pub mod Counts
pub mod Searched
