pub mod Watch
pub mod Watched
pub mod Sound
pub mod Fills
pub mod Led
pub mod Kept
