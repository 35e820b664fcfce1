pub mod Steps
pub mod Facts
pub mod Sound
pub mod Complete
pub mod Cover
pub mod Cuts
