-- Order 4: a descriptor that links to itself and is not parked runs twice.
-- Assumes nothing.
use Rattle.std.specs.Prelude.{None}
use Prim.Native.Nat.{ℕ, suc, ◌+◌, ◌%◌, ◌<◌}
use mathlib.Core.Path.{◌≡◌, refl, sym, ap, subst, subst⁻¹, ◌∙◌}
use mathlib.Core.Bool.{true}
use mathlib.Core.List.{List, [], ◌∷◌, ◌++◌, append-nil}
use native.Mathlib.Nat.{add-zero}
use native.Mathlib.Omega.{arith}
use lib.ListN.{get_or, drop, length-drop}
use lib.Seq.{drop-drop, take-add}
use Rattle.words.specs.declared.Order.TheVariants.{LeastFirst}
use Rattle.words.specs.Slices.{part, AllBytes}
use Rattle.words.proofs.Bytes.{take-bytes, drop-bytes, append-bytes}
use Rattle.words.proofs.Orders.{row-bytes}
use Rattle.words.proofs.Slices.{part-part}
use Rattle.bus.specs.Window.{in_window, place_of}
use Rattle.regs.specs.declared.Mode.TheVariants.{StreamToMemory}
use Rattle.machine.specs.declared.Reason.TheVariants.{Ended}
use Rattle.machine.specs.Step.{World, taken, stopped, became, holding, ended, step}
use Rattle.machine.specs.Run.{Report, run, taken_since, ran_as}
use Rattle.machine.specs.Laws.{Along, here, more}
use Rattle.machine.proofs.RunLaws.{join, along-map, run-to-end}
use Rattle.links.specs.Form.{All, Link, link_at, Off}
use Rattle.chain.specs.Chain.{Given, Share, given, cost, sent_by_all, share_of}
use Rattle.chain.specs.Twice.{itself, twice, second, LinksToItself, RanTwice}
use Rattle.chain.specs.Theorems.{RunsTwice}
use Rattle.chain.proofs.Lists.{all_map, all_left, all_right}
use Rattle.chain.proofs.Memory.{Placed, placed, part_ext, last_at, lastAt-append, lastAt-none}
use Rattle.chain.proofs.Links.{all-bytes, links-short}
use Rattle.chain.proofs.Rules.{sees-in, rest-step, end_step}
use Rattle.chain.proofs.Blocks.{OffFour, landed-last}
use Rattle.chain.proofs.Start.{nothing-ahead, resting, fetching, starts, set_so, unstopped}
use Rattle.chain.proofs.One.{after_mark, Ready, AtOne, sending, kept, mark-step, mark-size, mark-off, done-here, bytes-here, sees-next}
use Rattle.chain.proofs.Alike.{alike_self}
use Rattle.chain.proofs.Shares.{Linked, ready}

module _ (g : Given) (h : LinksToItself g) where
  abbrev l : Link
  l = itself g

  -- its shares
  abbrev s1 : Share
  s1 = share_of l g.beats

  abbrev s2 : Share
  s2 = second g

  -- at its first Fetch, its second and the last
  abbrev w1 : World
  w1 = fetching StreamToMemory g

  abbrev w2 : World
  w2 = after_mark w1 s1

  abbrev w3 : World
  w3 = after_mark w2 s2

  abbrev end : World
  end = holding (became w3 (ended w3.core)) None

  abbrev p : ℕ
  p = place_of g.window g.pointer

  bytes : AllBytes (part g.memory p 32)
  bytes = take-bytes 32 (drop p g.memory) (drop-bytes p g.memory (all-bytes g.memory h.bytes))

  short : l.says.length < 65536
  short = (links-short g.window g.memory g.pointer 1 (all-bytes g.memory h.bytes) h.lent (h.inside, tt)).0

  carries : Ready w1 (twice g)
  carries =
      let stands : Linked g.window (l ∷ l ∷ []) l = record { short = short; stands = placed g.window g.pointer 32 h.inside; among = λ q o. o.0 } in
      ready StreamToMemory (l ∷ l ∷ []) (l ∷ l ∷ []) w1 g.memory refl (alike_self h.lent) (stands, (stands, tt))
      (unstopped StreamToMemory g h.stop_clear, h.stream) h.lands (omega arith)

  first : AtOne w1 s1
  first =
      record {
        fetching = refl;
        set = set_so StreamToMemory g h.run_set h.park_clear;
        lent = h.lent;
        points = refl;
        sees = sees-in w1 g.memory l refl h.aligned h.inside bytes (nothing-ahead w1 refl);
        owns = h.self_owned;
        inside = h.inside;
        ledger = (let k = h.ledger in omega arith);
        lands = all_left (λ s. in_window g.window s.to 1 ≡ true) s1.sent (s2.sent ++ []) h.lands;
        carried = carries.0;
      }

  -- it was read ahead before its mark
  again : AtOne w2 s2
  again =
      record {
        fetching = refl;
        set = first.set;
        lent = mark-size w1 s1 first ∙ h.lent;
        points = h.to_itself;
        sees = sees-in w2 g.memory l (ap (link_at g.window g.memory) (sym h.to_itself)) h.aligned h.inside bytes (sees-next w1 s1 first);
        owns = h.self_owned;
        inside = h.inside;
        ledger = (let k = h.ledger in omega arith);
        lands = all_left (λ s. in_window g.window s.to 1 ≡ true) s2.sent []
            (all_right (λ s. in_window g.window s.to 1 ≡ true) s1.sent (s2.sent ++ []) h.lands);
        carried = carries.1.0;
      }

  -- ---- the mark is read ahead at the second

  marked-bytes : AllBytes (part w2.memory p 32)
  marked-bytes =
      let stands : Placed g.window g.pointer 32 = placed g.window g.pointer 32 h.inside in
      let off : All (λ s. Off l s.to) s1.sent = all_left (λ s. Off l s.to) s1.sent (s2.sent ++ []) h.outside in
      let front : part w2.memory p 28 ≡ part g.memory p 28 =
      part_ext w2.memory g.memory p 28 (mark-size w1 s1 first)
      (λ i k. mark-off w1 s1 first (p + i) (λ j m f. absurd (omega (arith, stands.address)))
      ∙ (kept w1 s1 first).frame (p + i) (all_map (λ s o f. o i (omega arith) (let e : s.to ≡ g.window.base + (p + i) = f in omega (arith, stands.address))) s1.sent off)) in
      let before : AllBytes (part g.memory p 28) =
      subst AllBytes (part-part g.memory p 32 0 28 (omega arith) ∙ ap (λ (x : ℕ). part g.memory x 28) (add-zero p))
      (take-bytes 28 (drop 0 (part g.memory p 32)) (drop-bytes 0 (part g.memory p 32) bytes)) in
      let parts : part w2.memory p 32 ≡ part w2.memory p 28 ++ part w2.memory (p + 28) 4 =
      take-add 28 4 (drop p w2.memory) ∙ rw (drop-drop 28 p w2.memory) in
      subst⁻¹ AllBytes parts
      (append-bytes (part w2.memory p 28) (part w2.memory (p + 28) 4) (subst⁻¹ AllBytes front before)
      (subst⁻¹ AllBytes (done-here w1 s1 first).four (row-bytes LeastFirst (2 ∷ 1 ∷ 1 ∷ []) (s1.count ∷ s1.errors ∷ (l.says.control.0 % 128) ∷ []))))

  abbrev left : Link
  left = link_at g.window w2.memory g.pointer

  ends : step w3 ≡ taken end
  ends =
      end_step w3 left refl first.set h.to_itself
      (sees-in w3 w2.memory left (ap (link_at g.window w2.memory) (sym h.to_itself)) h.aligned h.inside marked-bytes (sees-next w2 s2 again))
      (done-here w1 s1 first).marked

  stops : step end ≡ stopped Ended
  unfolding step
  stops = refl

  way : Along (λ w. Unit {0}) (2 + cost (twice g)) (resting StreamToMemory g) end
  way =
      subst (λ (n : ℕ). Along (λ w. Unit {0}) n (resting StreamToMemory g) end)
      (let x : suc (suc s1.count + suc (suc s2.count + 2)) ≡ 2 + cost (twice g) = omega arith in x)
      (more tt (rest-step (resting StreamToMemory g) refl first.set.runs)
      (join (along-map (λ w x. tt) (sending w1 s1 first)) (more tt (mark-step w1 s1 first)
      (join (along-map (λ w x. tt) (sending w2 s2 again)) (more tt (mark-step w2 s2 again) (more tt ends (here tt)))))))

  abbrev report : Report
  report = record { reason = Ended; steps = 2 + cost (twice g); world = end }

  landed : (q : ℕ) → OffFour g.window q l
      → get_or end.memory q 0 ≡ last_at (g.window.base + q) (sent_by_all (twice g)) (get_or g.memory q 0)
  landed q o =
      bytes-here w2 s2 again q o
      ∙ ap (last_at (g.window.base + q) s2.sent) (bytes-here w1 s1 first q o)
      ∙ sym (lastAt-append (g.window.base + q) s1.sent s2.sent _)
      ∙ ap (λ (ss : List _). last_at (g.window.base + q) (s1.sent ++ ss) (get_or g.memory q 0)) (sym (append-nil s2.sent))

  outcome : RanTwice g (ran_as g.used (resting StreamToMemory g) report) end.memory end.records
  outcome =
      let one = carries.0.there in
      let two = carries.1.0.there in
      let all-taken : taken_since (resting StreamToMemory g) end ≡ given (twice g) =
      omega (arith, length-drop s1.taken g.beats, length-drop s2.taken w2.input) in
      record {
        reason = refl;
        steps = refl;
        taken = all-taken;
        made = refl;
        records = refl;
        used = refl;
        done = done-here w2 s2 again;
        pointer = h.to_itself;
        landed = landed-last g.window g.memory end.memory (l ∷ []) (sent_by_all (twice g)) h.lands
            (all_map (λ s o. (o, tt)) (sent_by_all (twice g)) h.outside) (λ q o. landed q o.0);
        frame = λ q a o. landed q o ∙ lastAt-none (g.window.base + q) (sent_by_all (twice g)) (get_or g.memory q 0) a;
        size = mark-size w2 s2 again ∙ mark-size w1 s1 first;
      }

pub runs-twice : RunsTwice
runs-twice g h budget k =
    subst⁻¹ (λ (w : World). RanTwice g (ran_as g.used w (run budget w)) (run budget w).world.memory (run budget w).world.records) (starts StreamToMemory g h.run_set)
    (subst⁻¹ (λ (r : Report). RanTwice g (ran_as g.used (resting StreamToMemory g) r) r.world.memory r.world.records)
    (run-to-end (way g h) (stops g h) budget k) (outcome g h))
