pub mod Ranks
pub mod Classes
pub mod Search
