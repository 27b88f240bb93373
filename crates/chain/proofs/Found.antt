-- After the run each of the chain's descriptors is found in the ledger.
-- Assumes nothing.
use Rattle.std.specs.Prelude.{if◌then◌else◌, Option, Some, None, Ok}
use Prim.Native.Nat.{ℕ, zero, suc, ◌+◌, ◌*◌, ◌/◌, ◌%◌, ◌^◌, ◌≤◌, ◌<◌}
use mathlib.Core.Path.{◌≡◌, refl, sym, ap, subst, subst⁻¹, ◌∙◌}
use mathlib.Core.Logic.{◌≢◌}
use mathlib.Core.Bool.{Bool, true, false, cond, ◌&&◌}
use mathlib.Core.List.{List, [], ◌∷◌, ◌++◌}
use native.Mathlib.Omega.{arith}
use lib.Bits.{bit_or, or_lt}
use lib.Dec.{eqb, leb}
use lib.ListN.{length, drop}
use borrow.Author.Tests.{eq-eqb, ne_eqb, leb-true, le-leb}
use Rattle.words.specs.Slices.{put, AllBytes}
use Rattle.words.proofs.Slices.{length-put}
use Rattle.bus.specs.declared.Window.{Window}
use Rattle.bus.specs.Window.{keeps_limits, in_window}
use Rattle.regs.specs.declared.Mode.{Mode}
use Rattle.regs.specs.declared.Mode.TheVariants.{MemoryToMemory, MemoryToStream, StreamToMemory}
use Rattle.flow.specs.Beats.{beat_error, beat_eop, beats_in}
use Rattle.flow.specs.Rows.{gathered}
use Rattle.ledger.specs.declared.Entry.{Entry}
use Rattle.ledger.specs.Records.{ledger_bytes, is_ledger}
use Rattle.ledger.specs.Finding.{entries_in, is_of, latest, finding_in}
use Rattle.ledger.specs.Theorems.{AllFit}
use Rattle.ledger.proofs.Rows.{length-ledger, capacity-le}
use Rattle.ledger.proofs.ReadBack.{records-back}
use Rattle.ledger.proofs.Latest.{records-within, asked_of}
use Rattle.image.proofs.Tests.{and_left, and_right}
use Rattle.machine.specs.Run.{Lent}
use Rattle.links.specs.Form.{All, Pairwise, Link, Apart}
use Rattle.chain.specs.Chain.{Given, links, last, Share, record_of, records_of, wants, takes}
use Rattle.chain.specs.Modes.{share_in, writes, shares_from, shares_in, PremisesIn}
use Rattle.chain.specs.Calls.{given_by}
use Rattle.chain.specs.Theorems.{EachFound, EachFoundIn}
use Rattle.chain.proofs.Lists.{all_map, all_left, links_of}
use Rattle.chain.proofs.Memory.{placed}
use Rattle.chain.proofs.Start.{fetching}
use Rattle.chain.proofs.Shares.{all_short}
use Rattle.chain.proofs.Theorem.{length-records, theirs, k-shares, all-ready}
use Rattle.chain.proofs.Demand.{same-shares, premises, same-cost}
use Rattle.chain.proofs.OfRun.{limits, finishes}

-- ---- the records' numbers fit their places

abbrev Beats : List ℕ → Type 0
Beats bs = All (λ b. b < 65536) bs

pub beats-of : (xs : List ℕ) → AllBytes xs → Beats (beats_in xs)
beats-of [] g = tt
beats-of (x ∷ []) g = tt
beats-of (x ∷ y ∷ xs) g = (let a = g.0 in let b = g.1.0 in omega arith, beats-of xs g.1.1)

drop-beats : (n : ℕ) (bs : List ℕ) → Beats bs → Beats (drop n bs)
drop-beats zero bs a = a
drop-beats (suc n) [] a = tt
drop-beats (suc n) (b ∷ bs) a = drop-beats n bs a.1

takes-beats : (n : ℕ) (bs : List ℕ) → Beats bs → Beats (takes n bs)
takes-beats zero bs a = tt
takes-beats (suc n) [] a = tt
takes-beats (suc n) (b ∷ bs) a = (a.0, by (beat_eop b) (takes-beats n bs a.1))
  where
    by : (x : Bool) → Beats (takes n bs) → Beats (cond x [] (takes n bs))
    by true h = tt
    by false h = h

errors-fit : (e : ℕ) (bs : List ℕ) → e < 2 ^ 7 → Beats bs → gathered e bs < 2 ^ 7
errors-fit e [] h a = h
errors-fit e (b ∷ bs) h a = errors-fit (bit_or e (beat_error b)) bs (or_lt 7 e (beat_error b) h (let k = a.0 in omega arith)) a.1

module _ (mode : Mode) (w : Window) where
  share-errors : (x : Mode) (m : List ℕ) (l : Link) (bs : List ℕ) → Beats bs → (share_in x w m l bs).errors < 2 ^ 7
  share-errors MemoryToMemory m l bs a = omega arith
  share-errors MemoryToStream m l bs a = omega arith
  share-errors StreamToMemory m l bs a = errors-fit 0 (takes (wants l.says) bs) (omega arith) (takes-beats (wants l.says) bs a)

  shares-errors : (m : List ℕ) (ls : List Link) (bs : List ℕ) → Beats bs → All (λ (s : Share). s.errors < 2 ^ 7) (shares_from mode w m ls bs)
  shares-errors m [] bs a = tt
  shares-errors m (l ∷ ls) bs a =
      (share-errors mode m l bs a, shares-errors (writes w (share_in mode w m l bs).sent m) ls _ (drop-beats (share_in mode w m l bs).taken bs a))

records-fit : (ss : List Share) → All (λ (s : Share). s.count < 65536) ss → All (λ (s : Share). s.errors < 2 ^ 7) ss
    → All (λ l. l.at < 2 ^ 32) (links_of ss) → AllFit (records_of 1 ss)
records-fit [] c e p = tt
records-fit (s ∷ ss) c e p = ((omega arith, p.0, c.0, omega (arith, e.0)), records-fit ss c.1 e.1 p.1)

-- ---- the latest among them

module _ (address : ℕ) where
  -- records of other descriptors leave what was found before them
  latest-none : (before : Option ℕ) (ss : List Share) → All (λ l. l.at ≢ address) (links_of ss) → latest 1 address before (records_of 1 ss) ≡ before
  latest-none before [] a = refl
  latest-none before (s ∷ ss) a = rw (latest, ne_eqb s.link.at address a.0) (latest-none before ss a.1)

  latest-append : (before : Option ℕ) (es fs : List Entry) → latest 1 address before (es ++ fs) ≡ latest 1 address (latest 1 address before es) fs
  latest-append before [] fs = refl
  latest-append before (e ∷ es) fs = latest-append (if is_of 1 address e then Some e.actual else before) es fs

both : (x y : Bool) → x ≡ true → y ≡ true → (x && y) ≡ true
both x y p q = rw (p, q)

pairs-left : (ls ms : List Link) → Pairwise Apart (ls ++ ms) → Pairwise Apart ls
pairs-left [] ms a = tt
pairs-left (l ∷ ls) ms a = (all_left (Apart l) ls ms a.0, pairs-left ls ms a.1)

apart-others : (l m : Link) → Apart l m → m.at ≢ l.at
apart-others l m h e = h 0 (omega arith) 0 (omega arith) (omega (arith, e))

latest-each : (before : (address : ℕ) → Option ℕ) (ss : List Share) → Pairwise Apart (links_of ss)
    → All (λ s. latest 1 s.link.at (before s.link.at) (records_of 1 ss) ≡ Some s.count) ss
latest-each before [] a = tt
latest-each before (s ∷ ss) a =
    let l = s.link in (
      rw (latest, eq-eqb l.at l.at refl) (latest-none l.at (Some s.count) ss (all_map (λ m h. apart-others l m h) (links_of ss) a.0)),
      latest-each (λ (address : ℕ). if is_of 1 address (record_of 1 s) then Some s.count else before address) ss a.1,
    )

-- ---- in a ledger that has them behind those used

module _ (mode : Mode) (window : Window) (pointer control : ℕ) (l : Lent) (k : ℕ) (h : PremisesIn mode (given_by window pointer control k l))
    (limits : keeps_limits window.base window.length ≡ true) (whole : is_ledger (length l.ledger) l.used ≡ true)
    (beats : AllBytes l.beats) where
  abbrev g : Given
  g = given_by window pointer control k l

  abbrev ss : List Share
  ss = shares_in mode g

  abbrev rs : List Entry
  rs = records_of 1 ss

  k-records : length rs ≡ k
  k-records = length-records ss ∙ k-shares mode g h

  room : 12 * (l.used + length rs) ≤ length l.ledger
  room =
      omega (
        arith,
        h.ledger,
        (capacity-le (length l.ledger)).0,
        records-within l.ledger l.used whole,
        k-records,
      )

  fit : AllFit rs
  unfolding keeps_limits
  fit =
      let inside = all_left (λ l. in_window window l.at 32 ≡ true) (links g) (last g ∷ []) h.form.placed.inside in
      let high : window.base + window.length ≤ 4294967296 =
      leb-true _ _ (and_right (leb window.length 65536 && leb window.base 4294967295) _ limits) in
      records-fit ss (all_short ss (fetching mode g) (all-ready mode g h))
      (shares-errors mode window l.window (links g) g.beats (beats-of l.beats beats))
      (subst⁻¹ (All (λ l. l.at < 2 ^ 32)) (theirs mode g h)
      (all_map (λ l i. let p = placed window l.at 32 i in omega (arith, p.address, p.fits, high)) (links g) inside))

  abbrev left : List ℕ
  left = put l.ledger (12 * l.used) (ledger_bytes rs)

  same_length : length left ≡ length l.ledger
  same_length = length-put l.ledger (12 * l.used) (ledger_bytes rs) (omega (arith, room, length-ledger rs))

  still-ledger : is_ledger (length left) (l.used + length rs) ≡ true
  still-ledger =
      both _ _ (ap (λ (i : ℕ). eqb (i % 12) 0) same_length ∙ and_left _ _ whole)
      (le-leb (l.used + length rs) (length left / 12) (omega (arith, room, same_length)))

  module _ {after : List ℕ} (e : after ≡ left) where
    found_in : (address : ℕ) → finding_in after (l.used + k) 1 address
        ≡ Ok (latest 1 address (latest 1 address None (entries_in l.ledger l.used)) rs)
    found_in address =
        (λ i. finding_in (e i) (l.used + sym k-records i) 1 address)
        ∙ asked_of left (l.used + length rs) still-ledger 1 address (λ e. omega arith)
        ∙ ap (λ (es : List Entry). Ok (latest 1 address None es)) (records-back l.ledger l.used rs fit room)
        ∙ ap Ok (latest-append address None (entries_in l.ledger l.used) rs)

    pub each_in : All (λ s. finding_in after (l.used + k) 1 s.link.at ≡ Ok (Some s.count)) ss
    each_in =
        all_map (λ s e. found_in s.link.at ∙ ap Ok e) ss
        (latest-each (λ (address : ℕ). latest 1 address None (entries_in l.ledger l.used)) ss
        (subst⁻¹ (Pairwise Apart) (theirs mode g h) (pairs-left (links g) (last g ∷ []) h.form.placed.apart)))

-- Each of the k is found in run 1, with its count.
pub each-found-in : EachFoundIn
each-found-in mode window pointer control l budget r b k c h n beats =
    each_in mode window pointer control l k h (limits k c h) c.is_ledger beats (finishes k c h n).ledger_after

pub each-found : EachFound
each-found window pointer control l budget r b k c h n beats =
    let g : Given = given_by window pointer control k l in
    subst (All (λ (s : Share). finding_in b.ledger (l.used + k) 1 s.link.at ≡ Ok (Some s.count))) (same-shares g)
    (each-found-in StreamToMemory window pointer control l budget r b k c (premises g h) (same-cost g n) beats)
