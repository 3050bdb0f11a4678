pub mod WatchSteps
pub mod SoundSteps
pub mod LedSteps
pub mod LedCalls
pub mod LedFills
