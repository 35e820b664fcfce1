pub mod History
pub mod Told
pub mod Building
pub mod Kept
