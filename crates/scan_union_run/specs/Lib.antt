pub mod Unions
pub mod Runs
pub mod AskedOf
