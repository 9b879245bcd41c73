pub mod FileRows
pub mod FileSplits
pub mod FileAsks
pub mod Parts
pub mod Openings
pub mod FileScans
pub mod Opened
