pub mod Identity
pub mod Follows
pub mod Sources
pub mod BehindCode
pub mod Faults
pub mod Laws
