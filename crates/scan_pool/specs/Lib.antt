pub mod Boxes
pub mod Closures
pub mod Seats
