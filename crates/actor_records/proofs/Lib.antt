mod Choice
pub mod Agreement
pub mod Weaker
pub mod Longer
mod Blocks
mod Runs
mod Firsts
mod Whole
mod Owners
mod Order
pub mod Journal
pub mod Actors
pub mod Books
pub mod Queues
pub mod Phases
