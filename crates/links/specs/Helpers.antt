-- What only the contracts of private functions cite.
-- Assumes nothing.
pub mod Cells
pub mod Walks
pub mod Cuts
