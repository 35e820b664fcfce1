pub mod Counts
pub mod Peels
pub mod Levels
pub mod Waves
