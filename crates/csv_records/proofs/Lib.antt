pub mod Taking
pub mod Reader
pub mod Texts
