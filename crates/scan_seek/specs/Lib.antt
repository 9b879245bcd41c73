pub mod KeptData
pub mod KeptView
pub mod Keeps
pub mod Polls
pub mod Reads
pub mod Rows
