pub mod Line
pub mod Writes
pub mod Digits
pub mod Heads
pub mod HeadsFall
