pub mod Replay
pub mod Seen
pub mod Queue
pub mod Rule
pub mod Steps
pub mod Handle
pub mod OneThread
