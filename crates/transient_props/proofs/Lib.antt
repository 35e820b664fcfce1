pub mod Names
pub mod Kept
pub mod Putting
pub mod Leaving
pub mod Alike
