pub mod Sound
pub mod Met
pub mod Forward
pub mod Faults
pub mod Reading
pub mod Unused
pub mod Theorems
pub mod Obeys
