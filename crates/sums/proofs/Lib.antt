pub mod Balance
pub mod Marks
pub mod Sessions
