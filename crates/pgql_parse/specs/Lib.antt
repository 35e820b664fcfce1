pub mod Steps
pub mod Front
pub mod Place
