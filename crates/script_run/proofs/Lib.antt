pub mod Others
pub mod Phases
pub mod Blocks
pub mod Running
