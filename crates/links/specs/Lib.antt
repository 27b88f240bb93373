pub mod Form
pub mod Verdicts
pub mod Calls
pub mod Mending
pub mod Rows
pub mod MendRows
pub mod Theorems
pub mod Helpers
