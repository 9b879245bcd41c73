pub mod Moves
pub mod Schedules
