pub mod Disk
pub mod InParts
pub mod Lookup
pub mod Matches
pub mod Own
pub mod Shows
pub mod Sums
pub mod Uses
