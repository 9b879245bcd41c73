pub mod OfParts
pub mod Scopes
pub mod Typing
