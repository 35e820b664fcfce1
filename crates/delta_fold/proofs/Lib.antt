pub mod Set
pub mod New
pub mod Following
pub mod FoldedSlots
pub mod PieceLists
pub mod Rows
pub mod Prefixes
