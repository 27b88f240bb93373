-- Order 8: a chain that the check says sound has the form that demand 3 asks for.
-- Assumes nothing.
use mathlib.Core.Path.{sym}
use Rattle.links.proofs.Meaning.{sound-exactly}
use Rattle.chain.specs.Theorems.{SoundRuns}
use Rattle.chain.proofs.Demand.{chain-theorem}

pub sound-runs : SoundRuns
sound-runs g e limits says besides budget enough =
    let sound = (sound-exactly g.window g.memory g.pointer g.k e limits).0 says in
    (chain-theorem g (besides sound.form) budget enough, sym sound.end_is)
