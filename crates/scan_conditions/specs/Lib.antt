pub mod Parts
pub mod Reads
pub mod Spelling
pub mod Written
