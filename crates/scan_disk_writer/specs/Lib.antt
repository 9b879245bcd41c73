pub mod Faults
pub mod Out
pub mod Json
pub mod FileBytes
pub mod Written
