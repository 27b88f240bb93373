pub mod State
pub mod Saved
pub mod Registers
pub mod Step
pub mod Run
pub mod Laws
pub mod Helpers
pub mod Theorems
