-- Definitions that the code's private parts, and calls for another crate of this repository, are held to. No promise of a call that a
-- user makes speaks of them, and no reader needs to believe them: each is tied to the others by a law in proofs/.
-- Assumes nothing.
pub mod InWords
pub mod ByPhase
pub mod WasPut
pub mod InBytes
