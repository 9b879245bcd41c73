pub mod Asked
pub mod Gathers
pub mod Laws
pub mod Reads
pub mod Rows
