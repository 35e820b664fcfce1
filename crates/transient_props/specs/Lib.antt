pub mod Transients
