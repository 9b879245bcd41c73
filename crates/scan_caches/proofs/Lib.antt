pub mod Evictions
pub mod Faithful
pub mod Keeps
pub mod KeyOrder
pub mod Links
pub mod Plain
pub mod UseOrder
pub mod Weights
