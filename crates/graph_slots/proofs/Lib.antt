pub mod Kept
pub mod More
pub mod Few
pub mod Order
pub mod Starts
pub mod SlotAt
pub mod FewNumbers
pub mod KeptSlots
