pub mod State
pub mod Derived
pub mod Step
pub mod Gift
pub mod Bound
pub mod Ready
pub mod Law
