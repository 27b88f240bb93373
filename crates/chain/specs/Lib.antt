pub mod Chain
pub mod Modes
pub mod Calls
pub mod Known
pub mod Enough
pub mod Twice
pub mod Theorems
