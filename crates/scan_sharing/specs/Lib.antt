pub mod Holding
pub mod Kinds
pub mod Locks
pub mod Past
pub mod SharedTables
pub mod Sharing
pub mod Tickets
