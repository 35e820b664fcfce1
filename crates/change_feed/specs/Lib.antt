pub mod Fault
pub mod Row
pub mod Changes
pub mod Law
