pub mod Marks
pub mod Forest
