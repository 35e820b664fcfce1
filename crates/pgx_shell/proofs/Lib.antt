pub mod Endings
pub mod Usages
pub mod Statuses
pub mod Answered
pub mod Names
pub mod Expectations
pub mod FewCommands
pub mod Codes
