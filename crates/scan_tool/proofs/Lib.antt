pub mod Conjuncts
pub mod Idle
