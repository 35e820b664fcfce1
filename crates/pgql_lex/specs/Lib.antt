pub mod Bytes
pub mod Spelling
pub mod Tokens
pub mod Standing
pub mod Spans
pub mod Answer
