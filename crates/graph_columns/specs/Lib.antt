pub mod Keys
pub mod SlotSteps
pub mod TableParts
