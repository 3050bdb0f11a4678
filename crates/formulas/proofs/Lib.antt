pub mod Formulas
pub mod Kept
pub mod Words
pub mod Steps
pub mod Marking
pub mod Differ
pub mod Placed
