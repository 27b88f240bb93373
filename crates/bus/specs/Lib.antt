pub mod Refusal
pub mod Window
pub mod Theorems
