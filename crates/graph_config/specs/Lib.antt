pub mod Fault
pub mod Field
pub mod Walk
pub mod Check
pub mod Config
pub mod Document
pub mod Form
pub mod Locates
