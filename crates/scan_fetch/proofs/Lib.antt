pub mod Stepping
pub mod Wanting
pub mod Looping
