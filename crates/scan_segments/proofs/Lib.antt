mod Boxes
pub mod BytesSent
pub mod Counts
pub mod LiveSets
pub mod Lookups
pub mod Moves
