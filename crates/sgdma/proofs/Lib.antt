pub mod Opened
pub mod Answered
pub mod Changed
pub mod Running
