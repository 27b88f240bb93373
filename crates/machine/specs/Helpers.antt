-- What only the contracts of private functions cite, and the calls that another crate of this repository makes of a machine that it
-- knows to keep the rules. No promise of a user's call cites it; of the theorems those on bytes that are moved at once do, and the one
-- that a machine is resumed as it is run.
-- Assumes nothing.
pub mod Worlds
pub mod Waiting
pub mod Turns
pub mod AtOnce
pub mod Lending
pub mod Resume
pub mod Put
