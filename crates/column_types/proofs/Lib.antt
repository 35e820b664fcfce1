pub mod Entries
pub mod Whole
pub mod Days
pub mod Civil
pub mod Keys
pub mod Again
pub mod WholeColumns
