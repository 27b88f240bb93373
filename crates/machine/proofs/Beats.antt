-- Beats in lent bytes: the next one, and those made.
-- Assumes nothing.
use Prim.Native.Nat.{ℕ, ◌-◌, ◌*◌, ◌/◌, ◌≤◌, ◌<◌}
use mathlib.Core.Path.{◌≡◌, refl, sym}
use mathlib.Core.Bool.{Bool, true, false}
use mathlib.Core.List.{List, [], ◌∷◌, ◌++◌}
use native.Mathlib.Nat.{add-zero}
use native.Mathlib.Omega.{arith}
use lib.ListN.{length, drop, take-append-drop, drop_of_length-le}
use lib.Dec.{ltb}
use borrow.Author.Tests.{lt-ltb, le-ltb, ltb-true, ltb-false}
use Rattle.words.specs.declared.Order.TheVariants.{MostFirst}
use Rattle.words.specs.Orders.{bytes_of}
use Rattle.words.specs.Slices.{put, put_at}
use Rattle.words.proofs.Slices.{put_in}
use Rattle.flow.specs.Beats.{beats_in, beat_bytes}
use Rattle.flow.proofs.Streams.{length-beats, next-beat}
use Rattle.machine.specs.Helpers.Waiting.{some}

-- there is a beat, and there is room
some-by : (b : Bool) (xs : List ℕ) (i : ℕ) → ltb i (length xs / 2) ≡ b → some (drop i (beats_in xs)) ≡ b
some-by true xs i e = rw (next-beat xs i (ltb-true _ _ e))
some-by false xs i e = rw (drop_of_length-le (beats_in xs) {i = i} (rw (length-beats xs) (ltb-false _ _ e)))

pub some-beat : (xs : List ℕ) (i : ℕ) → ltb i (length xs / 2) ≡ some (drop i (beats_in xs))
some-beat xs i = sym (some-by (ltb i (length xs / 2)) xs i refl)

room_by : (b : Bool) (room made : ℕ) → ltb made room ≡ b → b ≡ ltb 0 (room - made)
room_by true room made e = let h : made < room = ltb-true made room e in sym (lt-ltb 0 (room - made) (omega arith))
room_by false room made e = let h : room ≤ made = ltb-false made room e in sym (le-ltb 0 (room - made) (omega arith))

pub some-room : (room made : ℕ) → ltb made room ≡ ltb 0 (room - made)
some-room room made = room_by (ltb made room) room made refl

-- beats made
pub none_made : (xs : List ℕ) (at : ℕ) → xs ≡ put xs at (beat_bytes [])
none_made xs at = rw (add-zero at) (sym (take-append-drop at xs))

pub beat-made : (xs : List ℕ) (made b : ℕ) → made < length xs / 2 → put_at xs (2 * made) (bytes_of MostFirst 2 b) ≡ put xs (2 * made) (beat_bytes (b ∷ []))
beat-made xs made b h = put_in xs (2 * made) (bytes_of MostFirst 2 b) (omega arith)

pub beat-bytes-append : (bs cs : List ℕ) → beat_bytes (bs ++ cs) ≡ beat_bytes bs ++ beat_bytes cs
beat-bytes-append [] cs = refl
beat-bytes-append (b ∷ bs) cs = rw (beat-bytes-append bs cs)
