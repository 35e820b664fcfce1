pub mod Relaxing
pub mod Entries
pub mod Searching
pub mod Causes
pub mod Told
pub mod Answering
