pub mod Alike
pub mod Claiming
pub mod Ending
pub mod Joining
pub mod Meaning
pub mod Picking
pub mod Polling
pub mod Running
