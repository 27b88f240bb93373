pub mod Scene
pub mod Known
pub mod Worked
pub mod Theorems
