pub mod Parsing
pub mod Listed
pub mod Lines
pub mod Serving
pub mod Running
pub mod Answering
