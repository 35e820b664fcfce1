pub mod Nexts
pub mod Rows
pub mod Stepped
pub mod Growth
pub mod Runs
pub mod AloneCalls
