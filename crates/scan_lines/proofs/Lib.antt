pub mod Numbers
pub mod Puts
pub mod Quoting
pub mod Texts
pub mod Heading
pub mod Valuing
pub mod Celling
