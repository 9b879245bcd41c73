pub mod Asking
pub mod Checking
pub mod Files
pub mod Inner
pub mod Polling
pub mod Tied
pub mod Told
