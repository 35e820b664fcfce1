pub mod Kept
pub mod Opens
