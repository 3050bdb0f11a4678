pub mod Sizes
pub mod Fresh
pub mod Lines
pub mod NoMachine
pub mod Reads
pub mod Replays
pub mod Told
pub mod Written
