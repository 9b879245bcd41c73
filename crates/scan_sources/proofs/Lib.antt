pub mod Bare
pub mod Binding
pub mod Covering
pub mod Limited
pub mod Preparing
pub mod Starting
pub mod Stepping
pub mod Together
