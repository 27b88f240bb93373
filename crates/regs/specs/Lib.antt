pub mod Modes
pub mod Status
pub mod Control
pub mod Offsets
