pub mod Exchanges
pub mod Turns
