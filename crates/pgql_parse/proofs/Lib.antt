pub mod Loops
pub mod Ending
