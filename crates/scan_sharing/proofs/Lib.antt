pub mod Agrees
pub mod Given
pub mod Holders
mod Joins
pub mod Numbers
pub mod Pasts
pub mod Replayed
pub mod Replays
pub mod Slots
pub mod TableSteps
