-- What the code finds before it moves bytes at once, and that the move is a burst: no step where there is no byte, else a row.
-- Assumes nothing.
use Rattle.std.specs.Prelude.{Option, Some, None}
use Prim.Native.Nat.{ℕ, zero, suc, ◌+◌, ◌-◌, ◌*◌, ◌/◌, ◌≤◌, ◌<◌}
use mathlib.Core.Path.{◌≡◌, refl, sym, ap, subst, subst⁻¹, ◌∙◌}
use mathlib.Core.Bool.{Bool, true, false, cond, ◌&&◌, and-false}
use mathlib.Core.List.{List, [], ◌++◌, append-nil}
use native.Mathlib.Nat.{add-zero, sub-zero}
use native.Mathlib.Omega.{arith}
use lib.Dec.{eqb}
use lib.ListN.{length, take, drop, get_or}
use lib.Seq.{drop-drop}
use borrow.Author.Tests.{ne_eqb, eqb-false}
use Rattle.words.specs.Slices.{put}
use Rattle.bus.specs.declared.Window.{Window}
use Rattle.bus.specs.declared.Place.{Place}
use Rattle.bus.specs.Window.{Sought}
use Rattle.descriptor.specs.Layout.{generate_eop, read_fixed, write_fixed}
use Rattle.regs.specs.declared.Mode.{Mode}
use Rattle.regs.specs.declared.Mode.TheVariants.{MemoryToMemory, MemoryToStream, StreamToMemory}
use Rattle.regs.specs.Modes.{mode_number}
use Rattle.image.specs.Rules.{asked}
use Rattle.flow.specs.declared.Absorbed.{Absorbed}
use Rattle.flow.specs.Beats.{beat_eop, beats_in, beat_bytes}
use Rattle.flow.specs.Rows.{extent, fit, calm, gathered, spread, copied, plain, absorbed_count, Absorbs, copied_over, sent_over}
use Rattle.flow.proofs.Fitting.{both-fit}
use Rattle.flow.proofs.Longer.{calm-most, calm-before, length-plain}
use Rattle.machine.specs.declared.Core.{Core}
use Rattle.machine.specs.declared.Work.{Work}
use Rattle.machine.specs.declared.Phase.TheVariants.{Move}
use Rattle.machine.specs.State.{settled, machine_with}
use Rattle.machine.specs.declared.bursts.Reach.{Reach}
use Rattle.machine.specs.declared.runs.Advanced.{Advanced}
use Rattle.machine.specs.declared.streams.Streams.{Streams}
use Rattle.machine.specs.Step.{World, taken, became, received, holding, settle, move_step, whole, source_of, destination_of, onward, beat_for}
use Rattle.machine.specs.Run.{lent, world_of}
use Rattle.machine.specs.Helpers.Worlds.{world_at, midway, reached_as, Within}
use Rattle.machine.specs.Helpers.Turns.{steps, Went, Advances}
use Rattle.machine.specs.Helpers.Resume.{InMove}
use Rattle.machine.specs.Helpers.Lending.{Kept, Applies, BurstsOn, AdvancesOn}
use Rattle.machine.specs.Helpers.AtOnce.{moved_by, Moving, Bursts, Reaches, Unmarked}
use Rattle.machine.proofs.Places.{inside, place, fits}
use Rattle.machine.proofs.Beats.{none_made}
use Rattle.machine.proofs.Outcomes.{took-since}
use Rattle.machine.proofs.Turning.{went-none}
use Rattle.machine.proofs.Waiting.{at-phase}
use Rattle.machine.proofs.InRows.{at_first, kept-onward, copy-steps, send-steps, receive-steps}

-- ---- what is in reach

pub no-reach : (fixed : Bool) (w : Window) (a : ℕ) → Reaches fixed w a (record { row = record { fixed = fixed; first = 0 }; bytes = 0 })
no-reach fixed w a = record { is_fixed = refl; row = λ n h i. absurd (omega arith) }

in_span : (fixed : Bool) (at n length : ℕ) → at + 1 ≤ length → n ≤ cond fixed 65535 (length - at) → at + extent fixed n ≤ length
in_span true at n length h l = h
in_span false at n length h l = omega arith

pub reached : (fixed : Bool) (w : Window) (a at bytes : ℕ) {l : Option Place} {p : Place} → Sought w a 1 l → l ≡ Some p → at ≡ p.0
    → bytes ≡ cond fixed 65535 (w.length - at) → Reaches fixed w a (record { row = record { fixed = fixed; first = at }; bytes = bytes })
reached fixed w a at bytes s e same far =
    record {
      is_fixed = refl;
      row = λ n h i. record {
        inside = inside s refl e;
        place = same ∙ place s refl e;
        fits = in_span fixed at n w.length (omega (arith, fits s e)) (omega (arith, far));
      };
    }

pub reaches-as : {f g : Bool} {w : Window} {a b : ℕ} {r : Reach} → f ≡ g → a ≡ b → Reaches f w a r → Reaches g w b r
reaches-as {g = g} {w = w} {a = a} {r = r} e d x = subst (λ (z : ℕ). Reaches g w z r) d (subst (λ (z : Bool). Reaches z w a r) e x)

-- ---- beats with neither SOP nor EOP

pub unmarked-none : (k : Work) → Unmarked k 0
unmarked-none k i errors byte h = absurd (omega arith)

not_first : (b : Bool) (x i : ℕ) → (b && eqb x 0) ≡ false → (b && eqb (x + i) 0) ≡ false
not_first false x i e = refl
not_first true x i e = let z : (x ≡ 0 → ⊥) = eqb-false x 0 e in ne_eqb _ _ (λ (y : x + i ≡ 0). z (omega arith))

plain-beat : (byte : ℕ) → 0 + 0 + byte ≡ byte
plain-beat byte = omega arith

-- `fixed` and `generate` are what the code found of the control byte
module _ (k : Work) {fixed generate : Bool} (f : fixed ≡ write_fixed k.control.0) (g : generate ≡ generate_eop k.control.0)
    (first : (fixed && eqb k.moved 0) ≡ false) where
  not-sop : (i : ℕ) → (write_fixed k.control.0 && eqb (k.moved + i) 0) ≡ false
  not-sop i = not_first (write_fixed k.control.0) k.moved i (ap (λ (b : Bool). b && eqb k.moved 0) (sym f) ∙ first)

  -- without GENERATE_EOP
  pub unmarked-all : (n : ℕ) → generate ≡ false → Unmarked k n
  unfolding beat_for
  unmarked-all n e i errors byte h = rw (not-sop i, sym g ∙ e) (plain-beat byte)

  -- with it, all but the last
  pub unmarked-inner : (most : ℕ) → k.moved + most ≤ k.length → Unmarked k (most - 1)
  unfolding beat_for
  unmarked-inner most l i errors byte h =
      let last : eqb (k.moved + i + 1) k.length ≡ false = ne_eqb _ _ (λ (y : k.moved + i + 1 ≡ k.length). omega arith) in
      rw (not-sop i, last, and-false (generate_eop k.control.0)) (plain-beat byte)

-- ---- bursts

-- no byte, no step
no_steps : {mode : Mode} {window : Window} {k : Work} {most : ℕ} {m : Core} → Moving mode window k most m
    → (w : World) → steps 0 (became w m) ≡ taken (became w (onward m (moved_by k 0 k.errors)))
unfolding steps
no_steps g w = ap (λ (x : Core). taken (became w x)) (sym (at_first g))

either : {A : Type 0} (b : Bool) (x : A) → cond b x x ≡ x
either true x = refl
either false x = refl

-- whether the bytes read, and those written, stay at one address
abbrev reads : Work → Bool
reads k = read_fixed k.control.0

abbrev writes : Work → Bool
writes k = write_fixed k.control.0

-- what is in reach fits, so that the loops do not hold back
module _ (k : Work) {place : Window} where
  copy-fits : {from to : Reach} (n : ℕ) (memory : List ℕ) → Reaches (reads k) place (source_of k) from → Reaches (writes k) place (destination_of k) to
      → place.length ≡ length memory → n ≤ from.bytes → n ≤ to.bytes
      → copied_over memory from.row.fixed from.row.first to.row.fixed to.row.first n ≡ copied memory (reads k) from.row.first (writes k) to.row.first n
  unfolding copied_over copied
  copy-fits {from} {to} n memory r s size f t =
      (λ x. copied_over memory (r.is_fixed x) from.row.first (s.is_fixed x) to.row.first n) ∙ by n f t
    where
      by : (n : ℕ) → n ≤ from.bytes → n ≤ to.bytes → copied_over memory (reads k) from.row.first (writes k) to.row.first n ≡ copied memory (reads k) from.row.first (writes k) to.row.first n
      by zero f t = either (fit (reads k) from.row.first 0 (length memory) && fit (writes k) to.row.first 0 (length memory)) memory
      by (suc n) f t =
          both-fit _ memory (reads k) (writes k) from.row.first to.row.first (suc n) (length memory) (length memory)
          (subst (λ (x : ℕ). from.row.first + extent (reads k) (suc n) ≤ x) size (r.row (suc n) (omega arith) f).fits)
          (subst (λ (x : ℕ). to.row.first + extent (writes k) (suc n) ≤ x) size (s.row (suc n) (omega arith) t).fits)

  sent-fits : {from : Reach} (n : ℕ) (memory out : List ℕ) (made : ℕ) → Reaches (reads k) place (source_of k) from → place.length ≡ length memory
      → n ≤ from.bytes → made + n ≤ length out / 2
      → sent_over memory from.row.fixed from.row.first out made n ≡ put out (2 * made) (beat_bytes (plain memory (reads k) from.row.first n))
  unfolding sent_over plain
  sent-fits {from} n memory out made r size f h = (λ x. sent_over memory (r.is_fixed x) from.row.first out made n) ∙ by n f h
    where
      by : (n : ℕ) → n ≤ from.bytes → made + n ≤ length out / 2
          → sent_over memory (reads k) from.row.first out made n ≡ put out (2 * made) (beat_bytes (plain memory (reads k) from.row.first n))
      by zero f h =
          let b : Bool = fit (reads k) from.row.first 0 (length memory) && fit false made 0 (length out / 2) in
          ap (cond b (put out (2 * made) [])) (none_made out (2 * made)) ∙ either b (put out (2 * made) [])
      by (suc n) f h =
          both-fit _ out (reads k) false from.row.first made (suc n) (length memory) (length out / 2)
          (subst (λ (x : ℕ). from.row.first + extent (reads k) (suc n) ≤ x) size (r.row (suc n) (omega arith) f).fits) h

  absorbed-fits : {to : Reach} (some : ℕ) (memory beats : List ℕ) (took : ℕ) → Reaches (writes k) place (destination_of k) to → place.length ≡ length memory
      → some ≤ to.bytes → took + some ≤ length beats / 2 → absorbed_count memory to.row.fixed to.row.first beats took some ≡ calm some (drop took (beats_in beats))
  absorbed-fits {to} some memory beats took s size t h = ap (λ (x : Bool). absorbed_count memory x to.row.first beats took some) s.is_fixed ∙ by some t h
    where
      by : (some : ℕ) → some ≤ to.bytes → took + some ≤ length beats / 2
          → absorbed_count memory (writes k) to.row.first beats took some ≡ calm some (drop took (beats_in beats))
      by zero t h = either (fit (writes k) to.row.first 0 (length memory) && fit false took 0 (length beats / 2)) 0
      by (suc n) t h =
          both-fit _ 0 (writes k) false to.row.first took (suc n) (length memory) (length beats / 2)
          (subst (λ (x : ℕ). to.row.first + extent (writes k) (suc n) ≤ x) size (s.row (suc n) (omega arith) t).fits) h

module _ {place : Window} {k : Work} {most : ℕ} where
  -- mode 0
  pub copy-bursts : {from to : Reach} (n : ℕ) (memory memory' : List ℕ) → Reaches (reads k) place (source_of k) from
      → Reaches (writes k) place (destination_of k) to → place.length ≡ length memory
      → n ≤ most → n ≤ from.bytes → n ≤ to.bytes → memory' ≡ copied_over memory from.row.fixed from.row.first to.row.fixed to.row.first n
      → (beats : List ℕ) (took : ℕ) (out : List ℕ) (made : ℕ)
      → Bursts MemoryToMemory place k most n k.errors memory beats took out made took made memory' out
  unfolding copied
  copy-bursts {from} {to} n memory memory' r s size l f t left beats took out made m g =
      subst⁻¹ (λ (x : List ℕ). Went (λ (w : World). steps n w) m memory beats took out made (reached_as (onward m (moved_by k n k.errors)) took made) x out)
      (left ∙ copy-fits k n memory r s size f t)
      (went-none (λ (w : World). steps n w) m _ memory _ beats took out made took (λ w. by n l f t w))
    where
      by : (n : ℕ) → n ≤ most → n ≤ from.bytes → n ≤ to.bytes → (w : World)
          → steps n (midway w m memory beats took out made)
          ≡ taken (midway w (onward m (moved_by k n k.errors)) (copied memory (reads k) from.row.first (writes k) to.row.first n) beats took out made)
      by zero l f t w = no_steps g (midway w m memory beats took out made)
      by (suc n) l f t w =
          copy-steps place k most m g from.row.first to.row.first (suc n) (r.row (suc n) (omega arith) f) (s.row (suc n) (omega arith) t) l
          (midway w m memory beats took out made) memory

  -- mode 1
  pub send-bursts : {from : Reach} (n : ℕ) (memory out out' : List ℕ) (made : ℕ) → Reaches (reads k) place (source_of k) from
      → place.length ≡ length memory → n ≤ most → n ≤ from.bytes → made + n ≤ length out / 2 → (k.moved + most ≤ k.length → Unmarked k n)
      → out' ≡ sent_over memory from.row.fixed from.row.first out made n
      → (beats : List ℕ) (took : ℕ)
      → Bursts MemoryToStream place k most n k.errors memory beats took out made took (made + n) memory out'
  unfolding plain
  send-bursts {from} n memory out out' made r size l f h u left beats took m g =
      let room : length out / 2 - made - n ≡ length out / 2 - (made + n) = omega arith in
      record {
        new = plain memory (reads k) from.row.first n;
        counted = ap (λ (x : ℕ). made + x) (sym (length-plain memory (reads k) from.row.first n));
        wrote = left ∙ sent-fits k n memory out made r size f h;
        goes = λ w. by n l f w (omega arith) (u (subst (λ (x : Mode). k.moved + most ≤ asked (mode_number x) k.length) g.mode_is g.left))
            ∙ ap (λ (x : ℕ). taken (world_at w (onward m (moved_by k n k.errors)) memory beats took (w.output ++ plain memory (reads k) from.row.first n) x)) room;
      }
    where
      by : (n : ℕ) → n ≤ most → n ≤ from.bytes → (w : World) → n ≤ length out / 2 - made → Unmarked k n
          → steps n (midway w m memory beats took out made)
          ≡ taken (world_at w (onward m (moved_by k n k.errors)) memory beats took (w.output ++ plain memory (reads k) from.row.first n) (length out / 2 - made - n))
      by zero l f w h u =
          let none = sym (append-nil w.output) in
          let all = sym (sub-zero (length out / 2 - made)) in
          no_steps g (midway w m memory beats took out made)
          ∙ (λ x. taken (world_at w (onward m (moved_by k 0 k.errors)) memory beats took (none x) (all x)))
      by (suc n) l f w h u =
          send-steps place k most m g from.row.first (suc n) (r.row (suc n) (omega arith) f) l u (midway w m memory beats took out made) h

  -- mode 2
  pub receive-bursts : {to : Reach} (some : ℕ) (memory memory' beats : List ℕ) (took : ℕ) (r : Absorbed) → Reaches (writes k) place (destination_of k) to
      → place.length ≡ length memory → some ≤ most → some ≤ to.bytes → took + some ≤ length beats / 2
      → Absorbs memory to.row.fixed to.row.first beats took some k.errors r memory'
      → (r.count ≤ some) × ((out : List ℕ) (made : ℕ)
      → Bursts StreamToMemory place k most r.count r.errors memory beats took out made (took + r.count) made memory' out)
  unfolding spread
  receive-bursts {to} some memory memory' beats took r s size l t h a =
      let bs = drop took (beats_in beats) in
      let counted : r.count ≡ calm some bs = a.count ∙ absorbed-fits k some memory beats took s size t h in
      let same : absorbed_count memory to.row.fixed to.row.first beats took some ≡ r.count = sym a.count in
      let errors : r.errors ≡ gathered k.errors (take r.count bs) = a.errors ∙ ap (λ (n : ℕ). gathered k.errors (take n bs)) same in
      let bytes : memory' ≡ spread memory (writes k) to.row.first bs r.count = a.lent ∙ (λ x. spread memory (s.is_fixed x) to.row.first bs (same x)) in
      let few : (r.count ≤ some) × (r.count ≤ length bs) = subst⁻¹ (λ (n : ℕ). (n ≤ some) × (n ≤ length bs)) counted (calm-most some bs) in
      let calmly : (i : ℕ) → i < r.count → beat_eop (get_or bs i 0) ≡ false = λ i j. calm-before some bs i (omega arith) in (
        few.0,
        λ out made m g.
            went-none (λ (w : World). steps r.count w) m _ memory _ beats took out made (took + r.count)
            (λ w. by m g r.count (omega (arith, few.0)) (omega (arith, few.0)) few.1 calmly (midway w m memory beats took out made)
            ∙ (λ x. taken (received (midway w m memory beats took out made) (onward m (moved_by k r.count (sym errors x))) (sym bytes x) (drop-drop r.count took (beats_in beats) x)))),
      )
    where
      by : (m : Core) → Moving StreamToMemory place k most m → (n : ℕ) → n ≤ most → n ≤ to.bytes → n ≤ length (drop took (beats_in beats))
          → ((i : ℕ) → i < n → beat_eop (get_or (drop took (beats_in beats)) i 0) ≡ false) → (w : World)
          → steps n (received w m memory (drop took (beats_in beats)))
          ≡ taken (received w (onward m (moved_by k n (gathered k.errors (take n (drop took (beats_in beats))))))
          (spread memory (writes k) to.row.first (drop took (beats_in beats)) n) (drop n (drop took (beats_in beats))))
      by m g zero l f i q w = no_steps g (received w m memory (drop took (beats_in beats)))
      by m g (suc n) l f i q w =
          receive-steps place k most m g to.row.first (suc n) (s.row (suc n) (omega arith) f) l w memory (drop took (beats_in beats)) i q

-- ---- what the run does with a burst

-- the machine is in Move; `bytes` is L, and `most` at most what is left of it
pub moving : {mode : Mode} {m : Core} {k : Work} {lent most bytes : ℕ} → m.mode ≡ mode → InMove m k lent → bytes ≡ whole m k → most ≤ bytes - k.moved → Moving mode m.window k most m
moving o p e h =
    record { mode_is = o; window_is = refl; phase_is = p.phase; no_eop = p.left.1; some = p.left.0; left = omega (arith, p.left.0) }

-- the counts of the same slices are within those that were lent
pub within-kept : {s s' : Streams} → Kept s s' → Within s.beats.now s.out.now s'.taken s'.made
within-kept {s' = s'} k =
    record {
      taken_in = subst (λ (xs : List ℕ). s'.taken ≤ length xs / 2) k.beats s'.within.0;
      made_in = subst (λ (n : ℕ). s'.made ≤ n / 2) k.room s'.within.1;
    }

pub kept-on : {s s' s'' : Streams} → Kept s s' → Kept s' s'' → Kept s s''
kept-on k l = record { beats = l.beats ∙ k.beats; out = l.out ∙ k.out; room = l.room ∙ k.room }

-- a burst of it is told
pub burst-told : (errors : ℕ) {mode : Mode} {m : Core} {k : Work} {most n : ℕ} {window : List ℕ} {s : Streams} {window' : List ℕ} {s' : Streams} {left : ℕ}
    {a : Advanced} → Moving mode m.window k most m → BurstsOn mode m.window k most n errors window s window' s'
    → a ≡ record { core = onward m (moved_by k n errors); steps = n } → n ≤ left
    → (a.steps ≤ left) × AdvancesOn m window s a.steps a.core window' s'
burst-told errors {m = m} {k = k} {n = n} {window = window} {s = s} {window' = window'} {s' = s'} {left = left} g b e l =
    let went = b.bursts m g in
    subst⁻¹ (λ (a : Advanced). (a.steps ≤ left) × AdvancesOn m window s a.steps a.core window' s') e (
      l,
      record {
        kept = b.kept;
        advances = record {
          within = within-kept b.kept;
          new = went.new;
          counted = went.counted;
          wrote = went.wrote;
          goes = λ w. went.goes w
              ∙ (λ x. taken (world_at (holding w (sym (kept-onward m (moved_by k n errors) w.slot) x)) (onward m (moved_by k n errors)) window' s.beats.now s'.taken
              (w.output ++ went.new) (length s.out.now / 2 - s'.made)));
        };
      },
    )

taken-same : (w v : World) → taken w ≡ taken v → w ≡ v
taken-same w v e = cc

-- no step leaves all that is lent as it was
module _ {m : Core} {window : List ℕ} {s : Streams} {n : ℕ} {m' : Core} {window' : List ℕ} {s' : Streams}
    (g : AdvancesOn m window s n m' window' s') (none : n ≡ 0) where
  -- whatever world stands around it
  abbrev around : World
  around = world_of (machine_with m None 0) (lent window s.beats.now s.out.now [] 0)

  same-world : midway around m window s.beats.now s.taken s.out.now s.made
      ≡ world_at (holding around (settled m'.phase around.slot)) m' window' s.beats.now s'.taken g.advances.new (length s.out.now / 2 - s'.made)
  unfolding steps
  same-world =
      taken-same _ _
      (ap (λ (i : ℕ). steps i (midway around m window s.beats.now s.taken s.out.now s.made)) (sym none) ∙ g.advances.goes around)

  no-beats : [] ≡ g.advances.new
  no-beats = ap (λ (w : World). w.output) same-world

  same-out : s.out.now ≡ s'.out.now
  same-out =
      none_made s.out.now (2 * s.made) ∙ ap (λ (bs : List ℕ). put s.out.now (2 * s.made) (beat_bytes bs)) no-beats ∙ sym g.advances.wrote

  same-made : s.made ≡ s'.made
  same-made = sym (add-zero s.made) ∙ ap (λ (bs : List ℕ). s.made + length bs) no-beats ∙ sym g.advances.counted

  same-taken : s.taken ≡ s'.taken
  same-taken =
      sym (took-since s.beats.now s.taken s.within.0)
      ∙ ap (λ (w : World). length (beats_in s.beats.now) - length w.input) same-world
      ∙ took-since s.beats.now s'.taken g.advances.within.taken_in

  pub as_before : (P : (window beats : List ℕ) (took : ℕ) (out : List ℕ) (made : ℕ) → Type 0) → P window s.beats.now s.taken s.out.now s.made
      → P window' s'.beats.now s'.taken s'.out.now s'.made
  as_before P p =
      subst (λ (x : List ℕ). P x s'.beats.now s'.taken s'.out.now s'.made) (ap (λ (w : World). w.memory) same-world)
      (subst (λ (x : List ℕ). P window x s'.taken s'.out.now s'.made) (sym g.kept.beats)
      (subst (λ (x : ℕ). P window s.beats.now x s'.out.now s'.made) same-taken
      (subst (λ (x : List ℕ). P window s.beats.now s.taken x s'.made) same-out
      (subst (λ (x : ℕ). P window s.beats.now s.taken s.out.now x) same-made p))))

  -- so that one step of Move after it is one step
  pub then-step : {k : Work} {m'' : Core} {window'' : List ℕ} {s'' : Streams} → m.phase ≡ Move k
      → Applies (λ (w : World). move_step m.mode w k) m window' s' m'' window'' s'' → AdvancesOn m window s 1 m'' window'' s''
  unfolding steps
  then-step {k} {m''} {window''} {s''} e t =
      let kept = kept-on g.kept t.kept in
      let r = reached_as m'' s''.taken s''.made in
      record {
        kept = kept;
        advances = as_before (λ window' beats took out made.
            Went (λ (w : World). move_step m.mode w k) m window' beats took out made r window'' s''.out.now
            → Advances m window s.beats.now s.taken s.out.now s.made 1 r window'' s''.out.now)
            (λ t.
            record {
              within = within-kept kept;
              new = t.new;
              counted = t.counted;
              wrote = t.wrote;
              goes = λ w. at-phase (midway w m window s.beats.now s.taken s.out.now s.made) e ∙ ap settle (t.goes w);
            })
            t.went;
      }
