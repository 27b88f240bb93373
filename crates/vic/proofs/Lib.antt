pub mod Marks
pub mod Choosing
pub mod Ruling
pub mod Refusing
pub mod Telling
pub mod Proved
pub mod Keeping
pub mod Cases
