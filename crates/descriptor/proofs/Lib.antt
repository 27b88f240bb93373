pub mod Looks
pub mod Halves
pub mod Seats
pub mod Reading
pub mod Writing
pub mod RoundTrip
