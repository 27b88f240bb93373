pub mod Layout
pub mod Looking
pub mod Calls
pub mod RoundTrip
pub mod Theorems
