pub mod Slots
pub mod Meaning
pub mod Touched
pub mod Numbers
pub mod Layout
