pub mod Adapter
pub mod Bounded
pub mod Counted
pub mod MemoryCache
pub mod UseOrder
