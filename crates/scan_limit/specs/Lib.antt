pub mod Budget
pub mod Schedule
pub mod Seats
