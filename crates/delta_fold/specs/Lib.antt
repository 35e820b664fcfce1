pub mod Folded
pub mod Steps
pub mod Marked
pub mod Pieces
