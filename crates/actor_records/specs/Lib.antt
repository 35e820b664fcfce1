pub mod Records
pub mod Rules
pub mod Agreement
pub mod OneThread
pub mod Order
pub mod Walk
pub mod Journal
pub mod Calls
