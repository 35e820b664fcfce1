pub mod KeptUp
