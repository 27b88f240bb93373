-- What only the contracts of private functions cite. No promise speaks of it, and no reader needs to believe it.
-- Assumes nothing.
pub mod Blocks
