pub mod Crossing
pub mod Given
pub mod Kept
pub mod Marked
pub mod Row
pub mod Sharing
pub mod Steps
