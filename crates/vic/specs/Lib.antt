pub mod Layout
pub mod Rules
pub mod Choice
pub mod Calls
pub mod Rows
pub mod Theorems
