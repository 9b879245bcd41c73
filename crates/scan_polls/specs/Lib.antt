pub mod Due
pub mod Examples
pub mod Laws
