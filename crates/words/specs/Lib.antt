pub mod Promise
pub mod Numbers
pub mod Bits
pub mod Orders
pub mod Slices
pub mod Packed
pub mod Fields
pub mod Theorems
