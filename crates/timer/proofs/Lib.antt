pub mod Along
pub mod InRegisters
pub mod InBytes
pub mod Opened
pub mod Periods
pub mod InUses
pub mod Cases
