pub mod Fault
pub mod Record
pub mod Put
pub mod Tables
pub mod Inline
pub mod Law
