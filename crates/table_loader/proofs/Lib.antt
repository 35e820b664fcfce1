pub mod Putting
pub mod Fields
pub mod Growing
pub mod Standing
pub mod First
pub mod Lines
pub mod FieldKinds
pub mod Causes
