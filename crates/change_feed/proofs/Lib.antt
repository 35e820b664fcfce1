pub mod Texts
pub mod Feeding
pub mod Named
pub mod Listed
pub mod Spelled
