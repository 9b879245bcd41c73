pub mod Empties
pub mod Faults
pub mod Parts
pub mod Plain
pub mod Requests
pub mod Scans
pub mod Sources
pub mod Splits
