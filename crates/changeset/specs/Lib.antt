pub mod Misfit
pub mod Facts
pub mod Overlay
