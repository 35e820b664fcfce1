pub mod Queue
pub mod Search
pub mod Weights
pub mod Answer
pub mod Reading
