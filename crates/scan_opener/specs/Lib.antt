pub mod Opener
pub mod OpenerMemory
