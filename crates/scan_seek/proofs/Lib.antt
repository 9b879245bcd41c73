pub mod OneRow
pub mod Spoiling
pub mod Rowing
pub mod Whole
pub mod Standing
