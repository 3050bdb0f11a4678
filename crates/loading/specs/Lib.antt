pub mod Takes
pub mod Loads
pub mod Led
