pub mod Run
pub mod Members
pub mod Leaves
