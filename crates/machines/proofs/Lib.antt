pub mod Nths
pub mod Asked
pub mod StuckSteps
pub mod OfRows
pub mod OfAdding
