pub mod Record
pub mod Own
pub mod Law
pub mod Next
pub mod Language
pub mod Turns
pub mod Ran
