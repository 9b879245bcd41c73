pub mod Before
pub mod Counting
pub mod Finding
pub mod Going
pub mod Moving
pub mod Parting
pub mod Standing
pub mod Stepping
