-- One owned descriptor, from the Fetch that sees it to its mark, by what its share says. How its bytes are moved is the mode's, and all
-- that is asked of a mode is `Carried`.
-- Assumes nothing.
use Prim.Native.Nat.{ℕ, suc, ◌+◌, ◌-◌, ◌%◌, ◌≤◌, ◌<◌}
use mathlib.Core.Path.{◌≡◌, refl, ap, ◌∙◌}
use mathlib.Core.Bool.{true, false, ◌&&◌}
use mathlib.Core.List.{List, [], ◌∷◌, ◌++◌}
use native.Mathlib.Omega.{arith}
use lib.Dec.{eqb}
use lib.ListN.{length, get_or, drop}
use Rattle.words.specs.Slices.{part}
use Rattle.words.proofs.Slices.{put_in, part-put}
use Rattle.bus.specs.declared.Window.{Window}
use Rattle.bus.specs.Window.{in_window, place_of}
use Rattle.descriptor.specs.Layout.{owned, last_four}
use Rattle.descriptor.specs.Looking.{look_at}
use Rattle.links.specs.Form.{All}
use Rattle.machine.specs.declared.Work.{Work}
use Rattle.machine.specs.declared.Phase.TheVariants.{Fetch, WriteBack}
use Rattle.machine.specs.State.{with_phase}
use Rattle.machine.specs.Step.{World, taken, laid, seen, wants_length, step}
use Rattle.machine.specs.Laws.{Along, more}
use Rattle.machine.proofs.Puts.{length-put-at, put-off}
use Rattle.machine.proofs.RunLaws.{along-last}
use Rattle.chain.specs.Chain.{Share, Done}
use Rattle.chain.specs.Modes.{writes}
use Rattle.chain.proofs.Lists.{all_map}
use Rattle.chain.proofs.Memory.{Placed, placed, last_at, last-writer}
use Rattle.chain.proofs.Rules.{Set, Sees, fetched_world, fetch-step, marked_world, Unhalted, write_step}
use Rattle.chain.proofs.Blocks.{OffFour, BlocksKept, kept-none, done-by-four}

abbrev pub window_of : World → Window
window_of w = w.core.window

-- the work in hand when its bytes are moved
abbrev work_of : Share → Work
work_of s =
    let d = s.link.says in
    record {
      at = s.link.at;
      source = d.source;
      destination = d.destination;
      length = d.length;
      control = d.control;
      errors = s.errors;
      moved = s.count;
      eop = s.eop;
    }

module _ (w : World) (s : Share) where
  -- after its bytes, and after its mark
  abbrev pub after_bytes : World
  after_bytes =
      let v = fetched_world w s.link in
      laid v (with_phase (WriteBack (work_of s)) v.core) (writes (window_of w) s.sent w.memory) (drop s.taken w.input) (w.output ++ s.made) (w.room - length s.made)

  abbrev pub after_mark : World
  after_mark = marked_world after_bytes (work_of s)

  abbrev four : List ℕ
  four = last_four s.count s.errors (s.link.says.control.0 % 128)

  -- its mark leaves every other place
  pub marked-off : Placed (window_of w) s.link.at 32 → (p : ℕ) → OffFour (window_of w) p s.link
      → get_or after_mark.memory p 0 ≡ get_or after_bytes.memory p 0
  marked-off stands p o =
      put-off after_bytes.memory _ four p
      (λ j h f. o j h (let g : p ≡ place_of (window_of w) s.link.at + 28 + j = f in omega (arith, stands.address)))

  pub marked-size : length after_mark.memory ≡ length after_bytes.memory
  marked-size = length-put-at after_bytes.memory _ four

-- what a mode gives of a share at the Fetch of its descriptor
pub record Carried (w : World) (s : Share) : Type 0 where
  -- it is not too short to be fetched, nor too long for its count
  pub long : (wants_length w.core.mode && eqb s.link.says.length 0) ≡ false
  pub short : s.count < 65536
  -- its bytes are moved, a step for each, and on the way no byte of memory differs but where they are sent
  pub moves : Along (λ x. BlocksKept (window_of w) w.memory s.sent x.memory) s.count (fetched_world w s.link) (after_bytes w s)
  -- the beats that it takes are there, and its errors do not stop the machine
  pub there : s.taken ≤ length w.input
  pub goes_on : Unhalted w.core s.errors

-- and of all of a chain, each at its own Fetch
abbrev pub Ready : World → List Share → Type 0
Ready w [] = Unit {0}
Ready w (s ∷ ss) = Carried w s × Ready (after_mark w s) ss

-- what holds at that Fetch
pub record AtOne (w : World) (s : Share) : Type 0 where
  pub fetching : w.core.phase ≡ Fetch
  pub set : Set w.core
  pub lent : length w.memory ≡ w.core.window.length
  pub points : w.core.pointer.0 ≡ s.link.at
  pub sees : Sees w s.link.says
  pub owns : owned s.link.says.control.0 ≡ true
  pub inside : in_window w.core.window s.link.at 32 ≡ true
  pub ledger : 0 < w.left
  pub lands : All (λ x. in_window w.core.window x.to 1 ≡ true) s.sent
  pub carried : Carried w s

module _ (w : World) (s : Share) (r : AtOne w s) where
  pub stands : Placed (window_of w) s.link.at 32
  stands = placed (window_of w) s.link.at 32 r.inside

  -- ---- its bytes

  pub sending : Along (λ x. BlocksKept (window_of w) w.memory s.sent x.memory) (suc s.count) w (after_bytes w s)
  sending =
      more (kept-none _ _ _) (fetch-step w s.link r.fetching r.set r.points r.sees r.owns r.carried.long) r.carried.moves

  pub kept : BlocksKept (window_of w) w.memory s.sent (after_bytes w s).memory
  kept = along-last sending

  -- ---- its mark

  pub mark-step : step (after_bytes w s) ≡ taken (after_mark w s)
  mark-step = write_step (after_bytes w s) (work_of s) refl r.set r.carried.goes_on r.ledger

  pub mark-size : length (after_mark w s).memory ≡ length w.memory
  mark-size = marked-size w s ∙ kept.size

  pub mark-off : (p : ℕ) → OffFour (window_of w) p s.link → get_or (after_mark w s).memory p 0 ≡ get_or (after_bytes w s).memory p 0
  mark-off p o = marked-off w s stands p o

  fits : place_of (window_of w) s.link.at + 32 ≤ length w.memory
  fits = omega (arith, stands.fits, r.lent)

  pub done-here : Done (window_of w) (after_mark w s).memory s
  done-here =
      let p : ℕ = place_of (window_of w) s.link.at in
      let room : p + 28 + length (four w s) ≤ length (after_bytes w s).memory = omega (arith, fits, kept.size) in
      done-by-four (window_of w) (after_mark w s).memory s (omega (arith, fits, mark-size)) r.carried.short
      (ap (λ (m : List ℕ). part m (p + 28) 4) (put_in (after_bytes w s).memory (p + 28) (four w s) room)
      ∙ part-put (after_bytes w s).memory (p + 28) (four w s) 4 room refl)

  -- the bytes that it leaves
  pub bytes-here : (p : ℕ) → OffFour (window_of w) p s.link
      → get_or (after_mark w s).memory p 0 ≡ last_at ((window_of w).base + p) s.sent (get_or w.memory p 0)
  bytes-here p o =
      mark-off p o ∙ last-writer (window_of w) p s.sent w.memory r.lent (all_map (λ s h. placed _ _ _ h) s.sent r.lands)

  -- what the next Fetch sees was read when this one was fetched
  pub sees-next : seen (after_mark w s) ≡ look_at (window_of w) w.memory s.link.says.next
  unfolding seen
  sees-next = refl
