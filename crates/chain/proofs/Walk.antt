-- A chain, from its first Fetch to Ended.
-- Assumes nothing.
use Rattle.std.specs.Prelude.{Ok, None}
use Prim.Native.Nat.{ℕ, suc, ◌+◌, ◌%◌, ◌≤◌}
use mathlib.Core.Path.{◌≡◌, refl, sym, ap, subst, ◌∙◌}
use mathlib.Core.Logic.{◌≢◌}
use mathlib.Core.Bool.{true}
use mathlib.Core.List.{List, [], ◌∷◌, ◌++◌, append-nil, append_assoc}
use native.Mathlib.Omega.{arith}
use lib.ListN.{length, get_or, drop, length-drop}
use Rattle.words.specs.Slices.{part, AllBytes}
use Rattle.bus.specs.Window.{in_window, place_of}
use borrow.Author.Tests.{eq-eqb}
use Rattle.descriptor.specs.Layout.{owned}
use Rattle.descriptor.specs.Looking.{look_at}
use Rattle.descriptor.proofs.Looks.{look-there}
use Rattle.machine.specs.declared.Phase.TheVariants.{Fetch}
use Rattle.machine.specs.declared.Reason.TheVariants.{Ended}
use Rattle.machine.specs.Step.{World, stopped, became, holding, seen, ended, step}
use Rattle.machine.specs.Laws.{Along, here, more}
use Rattle.machine.proofs.RunLaws.{join, along-map, along-last}
use Rattle.links.specs.Form.{All, Pairwise, Link, link_at, Off, Apart}
use Rattle.chain.specs.Chain.{Share, given, cost, record_of, records_of, Sent, sent_by_all, Done}
use Rattle.chain.specs.Modes.{made_by_all}
use Rattle.chain.proofs.Lists.{all_map, all-map2, all_left, all_right, all_drop, all-swap, links_of, all-linked}
use Rattle.chain.proofs.Memory.{Placed, placed, part_ext, says_same, raw_same, last_at, lastAt-append}
use Rattle.chain.proofs.Links.{Chain, chain_same, chain-owned}
use Rattle.chain.proofs.Rules.{Set, sees-in, SeesMemory, end_step}
use Rattle.chain.proofs.Blocks.{Same, OffFour, off-four, apart-sym, BlocksKept, kept_block, Inv, inv-block, done-stays, waits}
use Rattle.chain.proofs.One.{window_of, after_bytes, after_mark, Ready, AtOne, stands, sending, kept, mark-step, mark-size, mark-off, done-here, bytes-here}

-- ---- what holds at a Fetch, with the shares ss and the last link e ahead

-- of the links in memory
pub record Lies (w : World) (ls : List Link) (e : Link) : Type 0 where
  pub chain : Chain w.core.window w.memory w.core.pointer.0 ls e
  pub aligned : All (λ l. l.at % 4 ≡ 0) (ls ++ e ∷ [])
  pub inside : All (λ l. in_window w.core.window l.at 32 ≡ true) (ls ++ e ∷ [])
  pub bytes : All (λ l. AllBytes (part w.memory (place_of w.core.window l.at) 32)) (ls ++ e ∷ [])
  pub apart : Pairwise Apart (ls ++ e ∷ [])

pub record AtChain (w : World) (ss : List Share) (e : Link) : Type 0 where
  pub fetching : w.core.phase ≡ Fetch
  pub set : Set w.core
  pub lent : length w.memory ≡ w.core.window.length
  pub lies : Lies w (links_of ss) e
  pub ledger : length ss ≤ w.left
  pub lands : All (λ s. in_window w.core.window s.to 1 ≡ true) (sent_by_all ss)
  pub outside : All (λ s. All (λ l. Off l s.to) (links_of ss ++ e ∷ [])) (sent_by_all ss)
  pub sees : SeesMemory w
  pub ready : Ready w ss

-- and what comes of it: the world at the end, the steps there, and what holds of each world on the way
pub record Walked (w : World) (ss : List Share) (e : Link) : Type 0 where
  pub last : World
  pub along : Along (λ x. Inv w.core.window w.memory ss x.memory) (cost ss + 1) w last
  pub stops : step last ≡ stopped Ended
  pub taken : length w.input ≡ given ss + length last.input
  pub made : last.output ≡ w.output ++ made_by_all ss
  pub records : last.records ≡ w.records ++ records_of w.run ss
  pub pointer : last.core.pointer.0 ≡ e.at
  pub done : All (Done w.core.window last.memory) ss
  pub size : length last.memory ≡ length w.memory
  pub bytes : (p : ℕ) → All (λ (s : Share). OffFour w.core.window p s.link) ss
      → get_or last.memory p 0 ≡ last_at (w.core.window.base + p) (sent_by_all ss) (get_or w.memory p 0)

walk_none : (w : World) (e : Link) → AtChain w [] e → Walked w [] e
unfolding step
walk_none w e r =
    let inv : Inv w.core.window w.memory [] w.memory =
    record { size = refl; frame = λ p a b. refl; few = record { few = 0; within = omega arith; done = tt; waiting = tt } } in
    record {
      last = holding (became w (ended w.core)) None;
      along = more inv
          (end_step w e r.fetching r.set (sym (ap (λ (l : Link). l.at) r.lies.chain.0))
          (sees-in w w.memory e r.lies.chain.0 r.lies.aligned.0 r.lies.inside.0 r.lies.bytes.0 r.sees) r.lies.chain.1)
          (here inv);
      stops = refl;
      taken = omega arith;
      made = sym (append-nil w.output);
      records = sym (append-nil w.records);
      pointer = sym (ap (λ (l : Link). l.at) r.lies.chain.0);
      done = tt;
      size = refl;
      bytes = λ p o. refl;
    }

-- ---- one descriptor

module _ (w : World) (share : Share) (others : List Share) (e : Link) (r : AtChain w (share ∷ others) e) where
  abbrev l : Link
  l = share.link

  abbrev ls : List Link
  ls = links_of others

  abbrev w1 : World
  w1 = after_bytes w share

  abbrev w2 : World
  w2 = after_mark w share

  -- every link is in the window, and off the bytes of this one
  all-stand : All (λ (x : Link). Placed (window_of w) x.at 32) (l ∷ ls ++ e ∷ [])
  all-stand = all_map (λ x h. placed (window_of w) x.at 32 h) (l ∷ ls ++ e ∷ []) r.lies.inside

  bytes-off : All (λ (x : Link). All (λ s. Off x s.to) share.sent) (l ∷ ls ++ e ∷ [])
  bytes-off =
      all-swap (λ (s : Sent) (x : Link). Off x s.to) share.sent (l ∷ ls ++ e ∷ [])
      (all_left (λ s. All (λ x. Off x s.to) (l ∷ ls ++ e ∷ [])) share.sent (sent_by_all others) r.outside)

  bytes-land : All (λ s. in_window (window_of w) s.to 1 ≡ true) share.sent
  bytes-land = all_left (λ s. in_window (window_of w) s.to 1 ≡ true) share.sent (sent_by_all others) r.lands

  one : AtOne w share
  one =
      record {
        fetching = r.fetching;
        set = r.set;
        lent = r.lent;
        points = sym (ap (λ (x : Link). x.at) r.lies.chain.0);
        sees = sees-in w w.memory l r.lies.chain.0 r.lies.aligned.0 r.lies.inside.0 r.lies.bytes.0 r.sees;
        owns = r.lies.chain.1;
        inside = r.lies.inside.0;
        ledger = (let h = r.ledger in omega arith);
        lands = bytes-land;
        carried = r.ready.0;
      }

  -- while its bytes are sent, none is done
  none_done : (m : List ℕ) → BlocksKept (window_of w) w.memory share.sent m → Inv (window_of w) w.memory (share ∷ others) m
  none_done m h =
      let held : All (Same (window_of w) m w.memory) (l ∷ ls ++ e ∷ []) =
      all-map2 (λ x i o. kept_block h x i o) (l ∷ ls ++ e ∷ []) all-stand bytes-off in
      record {
        size = h.size;
        frame = λ p a b. h.frame p (all_left (λ s. s.to ≢ (window_of w).base + p) share.sent (sent_by_all others) a);
        few = record {
          few = 0;
          within = omega arith;
          done = tt;
          waiting = all-map2 (λ s o i. waits (window_of w) w.memory m s h.size o i) (share ∷ others)
              (all-linked (λ x. owned (link_at (window_of w) w.memory x.at).says.control.0 ≡ true) (share ∷ others)
              (chain-owned (window_of w) w.memory w.core.pointer.0 (l ∷ ls) e r.lies.chain))
              (all-linked (Same (window_of w) m w.memory) (share ∷ others)
              (all_left _ (l ∷ ls) (e ∷ []) held));
        };
      }

  -- the other descriptors are as they were
  held : All (Same (window_of w) w2.memory w.memory) (ls ++ e ∷ [])
  held =
      all-map2 (λ x f a. f a) (ls ++ e ∷ []) (all-map2 (λ x h o. other x h o) (ls ++ e ∷ []) all-stand.1 bytes-off.1) r.lies.apart.0
    where
      other : (x : Link) → Placed (window_of w) x.at 32 → All (λ s. Off x s.to) share.sent → Apart l x
          → Same (window_of w) w2.memory w.memory x
      other x h o a =
          part_ext w2.memory w1.memory (place_of (window_of w) x.at) 32 (mark-size w share one ∙ sym (kept w share one).size)
          (λ i g. mark-off w share one (place_of (window_of w) x.at + i) (off-four (window_of w) x h i g l (apart-sym l x a)))
          ∙ kept_block (kept w share one) x h o

  -- ---- the others

  others-off : All (λ s. Off l s.to) (sent_by_all others)
  others-off =
      all_map (λ s a. a.0) (sent_by_all others)
      (all_right (λ s. All (λ x. Off x s.to) (l ∷ ls ++ e ∷ [])) share.sent (sent_by_all others) r.outside)

  -- so that what was read ahead is what stands there at the next Fetch
  still_seen : SeesMemory w2
  unfolding seen
  still_seen = next-look ls r.lies.chain.2 r.lies.aligned.1 r.lies.inside.1 held
    where
      same-look : (x : Link) → x.at ≡ l.says.next → x.at % 4 ≡ 0 → in_window (window_of w) x.at 32 ≡ true → Same (window_of w) w2.memory w.memory x
          → look_at (window_of w) w.memory l.says.next ≡ look_at (window_of w) w2.memory l.says.next
      same-look x f a i h =
          ap (look_at (window_of w) w.memory) (sym f)
          ∙ look-there (window_of w) w.memory x.at (eq-eqb _ _ a) i
          ∙ ap Ok (sym (raw_same w2.memory w.memory (place_of (window_of w) x.at) (mark-size w share one) h))
          ∙ sym (look-there (window_of w) w2.memory x.at (eq-eqb _ _ a) i)
          ∙ ap (look_at (window_of w) w2.memory) f

      next-look : (ls : List Link) → Chain (window_of w) w.memory l.says.next ls e → All (λ x. x.at % 4 ≡ 0) (ls ++ e ∷ [])
          → All (λ x. in_window (window_of w) x.at 32 ≡ true) (ls ++ e ∷ []) → All (Same (window_of w) w2.memory w.memory) (ls ++ e ∷ [])
          → look_at (window_of w) w.memory l.says.next ≡ look_at (window_of w) w2.memory l.says.next
      next-look [] c a i h = same-look e (ap (λ (x : Link). x.at) c.0) a.0 i.0 h.0
      next-look (x ∷ xs) c a i h = same-look x (ap (λ (y : Link). y.at) c.0) a.0 i.0 h.0

  next : AtChain w2 others e
  next =
      record {
        fetching = refl;
        set = r.set;
        lent = mark-size w share one ∙ r.lent;
        lies = record {
          chain = chain_same (window_of w) w.memory w2.memory l.says.next ls e
              (all_map (λ x h. says_same w2.memory w.memory _ (mark-size w share one) h) (ls ++ e ∷ []) held) r.lies.chain.2;
          aligned = r.lies.aligned.1;
          inside = r.lies.inside.1;
          bytes = all-map2 (λ x g h. subst AllBytes (sym h) g) (ls ++ e ∷ []) r.lies.bytes.1 held;
          apart = r.lies.apart.1;
        };
        ledger = (let h = r.ledger in omega arith);
        lands = all_right (λ s. in_window (window_of w) s.to 1 ≡ true) share.sent (sent_by_all others) r.lands;
        outside = all_map (λ s a. a.1) (sent_by_all others)
            (all_right (λ s. All (λ x. Off x s.to) (l ∷ ls ++ e ∷ [])) share.sent (sent_by_all others) r.outside);
        sees = still_seen;
        ready = r.ready.1;
      }

  -- while the others are walked, this one stays done
  stays-done : (m : List ℕ) → Inv (window_of w) w2.memory others m → Done (window_of w) m share
  stays-done m v =
      done-stays (window_of w) w2.memory m share v.size
      (inv-block v l (stands w share one) others-off (all-linked (Apart l) others (all_left (Apart l) ls (e ∷ []) r.lies.apart.0))) (done-here w share one)

  whole-inv : (m : List ℕ) → Inv (window_of w) w2.memory others m → Inv (window_of w) w.memory (share ∷ others) m
  whole-inv m v =
      record {
        size = v.size ∙ mark-size w share one;
        frame = λ p a b. v.frame p (all_right (λ s. s.to ≢ (window_of w).base + p) share.sent (sent_by_all others) a) b.1
            ∙ mark-off w share one p b.0 ∙ (kept w share one).frame p (all_left (λ s. s.to ≢ (window_of w).base + p) share.sent (sent_by_all others) a);
        few = record {
          few = suc v.few.few;
          within = omega (arith, v.few.within);
          done = (stays-done m v, v.few.done);
          waiting = all-map2 (λ s x h. record { unmarked = x.unmarked; same = x.same ∙ h }) (drop v.few.few others) v.few.waiting
              (all_drop _ v.few.few others (all-linked _ others (all_left _ ls (e ∷ []) held)));
        };
      }

  cost-more : suc share.count + suc (cost others + 1) ≡ cost (share ∷ others) + 1
  cost-more = omega arith

  walk_more : Walked w2 others e → Walked w (share ∷ others) e
  walk_more z =
      record {
        last = z.last;
        along = subst (λ (n : ℕ). Along (λ x. Inv (window_of w) w.memory (share ∷ others) x.memory) n w z.last)
            cost-more
            (join (along-map (λ x h. none_done x.memory h) (sending w share one))
            (more (none_done w1.memory (kept w share one)) (mark-step w share one) (along-map (λ x h. whole-inv x.memory h) z.along)));
        stops = z.stops;
        taken = (let there = r.ready.0.there in omega (arith, z.taken, length-drop share.taken w.input));
        made = z.made ∙ append_assoc w.output share.made (made_by_all others);
        records = z.records ∙ append_assoc w.records (record_of w.run share ∷ []) (records_of w.run others);
        pointer = z.pointer;
        done = (stays-done z.last.memory (along-last z.along), z.done);
        size = z.size ∙ mark-size w share one;
        bytes = λ p o. z.bytes p o.1 ∙ ap (last_at ((window_of w).base + p) (sent_by_all others)) (bytes-here w share one p o.0)
            ∙ sym (lastAt-append ((window_of w).base + p) share.sent (sent_by_all others) _);
      }

pub walk : (ss : List Share) (w : World) (e : Link) → AtChain w ss e → Walked w ss e
walk [] w e r = walk_none w e r
walk (s ∷ ss) w e r = walk_more w s ss e r (walk ss (w2 w s ss e r) e (next w s ss e r))
