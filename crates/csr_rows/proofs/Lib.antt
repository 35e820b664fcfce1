pub mod Places
pub mod Meaning
pub mod Sorting
pub mod Offsets
