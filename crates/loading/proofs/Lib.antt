pub mod OfPlaces
pub mod OfTaking
pub mod OfLoop
pub mod OfPieces
pub mod OfLed
