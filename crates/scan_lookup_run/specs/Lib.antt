pub mod Jobs
pub mod Replied
pub mod Runs
pub mod AskedOf
pub mod Served
