pub mod Times
pub mod Places
pub mod Changes
pub mod Finds
