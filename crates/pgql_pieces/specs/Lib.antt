pub mod Quotes
pub mod Answer
