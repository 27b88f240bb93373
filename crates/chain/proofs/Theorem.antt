-- Order 10: the chain theorem, in each mode.
-- Assumes nothing.
use Prim.Native.Nat.{ℕ, zero, suc, ◌+◌}
use mathlib.Core.Path.{◌≡◌, refl, ap, ap₂, subst, subst⁻¹, ◌∙◌}
use mathlib.Core.Bool.{true}
use mathlib.Core.List.{List, [], ◌∷◌, ◌++◌}
use native.Mathlib.Omega.{arith}
use lib.ListN.{length, get_or, drop}
use Rattle.words.proofs.Bytes.{take-bytes, drop-bytes}
use Rattle.bus.specs.declared.Window.{Window}
use Rattle.bus.specs.Window.{in_window, place_of}
use Rattle.regs.specs.declared.Mode.{Mode}
use Rattle.regs.specs.declared.Mode.TheVariants.{MemoryToMemory, MemoryToStream, StreamToMemory}
use Rattle.machine.specs.declared.Reason.TheVariants.{Ended, Budget}
use Rattle.machine.specs.Step.{World}
use Rattle.machine.specs.Run.{Report, run, taken_since, ran_as}
use Rattle.machine.specs.Laws.{Along, more}
use Rattle.machine.proofs.RunLaws.{along-first, along-map, run-to-end, run_short, run-on-way}
use Rattle.links.specs.Form.{All, Link, link_at, links_from, Off}
use Rattle.chain.specs.Chain.{Given, links, last, every_link, Share, given, cost, records_of, sent_by_all, Done, FirstFew, counts}
use Rattle.chain.specs.Modes.{sources_of, shares_in, moved_by_all, ReadsMemory, Asks, PremisesIn, OutcomeOf, EndsIn}
use Rattle.chain.specs.Theorems.{InEachMode, InEachModeAtEveryStep}
use Rattle.chain.proofs.Lists.{all_map, all-map2, all_left, all-each, links_of, all-linked}
use Rattle.chain.proofs.Memory.{placed, lastAt-none}
use Rattle.chain.proofs.Links.{chain-is, all-bytes, links-short}
use Rattle.chain.proofs.Rules.{rest-step}
use Rattle.chain.proofs.Blocks.{OffFour, landed-last}
use Rattle.chain.proofs.Start.{nothing-ahead, resting, fetching, starts, set_so, unstopped}
use Rattle.chain.proofs.One.{Ready}
use Rattle.chain.proofs.Walk.{Lies, AtChain, Walked, walk}
use Rattle.chain.proofs.Alike.{readable, alike_self}
use Rattle.chain.proofs.Shares.{links-of, length-shares, Reads, Own, Linked, ready}

-- the counts of descriptors that are done are the bytes moved
counts-moved : (w : Window) (m : List ℕ) (ss : List Share) → All (Done w m) ss → counts w m (links_of ss) ≡ moved_by_all ss
counts-moved w m [] a = refl
counts-moved w m (s ∷ ss) a = ap₂ ◌+◌ a.0.count (counts-moved w m ss a.1)

pub length-links : (w : Window) (m : List ℕ) (a n : ℕ) → length (links_from w m a n) ≡ n
length-links w m a zero = refl
length-links w m a (suc n) = ap suc (length-links w m ((link_at w m a).says.next) n)

pub length-records : (ss : List Share) → length (records_of 1 ss) ≡ length ss
length-records [] = refl
length-records (s ∷ ss) = ap suc (length-records ss)

-- what the mode asks for, at the first Fetch
reads : (g : Given) (l : Link) → ReadsMemory g l → Reads g.window (links g) l
reads g l r =
    record {
      some = r.some;
      from = all-map2 (λ a i o. readable g.window (links g) a i (all_left (λ x. Off x a) (links g) (last g ∷ []) o)) (sources_of l) r.inside r.outside;
    }

own : (mode : Mode) (g : Given) → Asks mode g → Own mode (fetching mode g) (links g) (links g)
own MemoryToMemory g a = all_map (λ l r. reads g l r) (links g) a
own MemoryToStream g a = all_map (λ l r. reads g l r) (links g) a
own StreamToMemory g a = (unstopped StreamToMemory g a.stop_clear, a.stream)

module _ (mode : Mode) (g : Given) (h : PremisesIn mode g) where
  abbrev ss : List Share
  ss = shares_in mode g

  k-inside : All (λ l. in_window g.window l.at 32 ≡ true) (links g)
  k-inside = all_left (λ l. in_window g.window l.at 32 ≡ true) (links g) (last g ∷ []) h.form.placed.inside

  linked : All (Linked g.window (links g)) (links g)
  linked =
      let Among : Link → Type 0 = λ l. (p : ℕ) → All (OffFour g.window p) (links g) → OffFour g.window p l in
      let if-among : All (λ l. Among l → Linked g.window (links g) l) (links g) =
      all-map2 (λ l x i e. record { short = x; stands = placed g.window l.at 32 i; among = e }) (links g)
      (links-short g.window g.memory g.pointer g.k (all-bytes g.memory h.bytes) h.lent k-inside) k-inside in
      all-map2 (λ l f e. f e) (links g) if-among (all-each (λ (p : ℕ) (l : Link). OffFour g.window p l) (links g))

  -- what holds of the links holds of the links of the shares
  abbrev pub theirs : links_of ss ≡ links g
  theirs = links-of mode g.window g.memory (links g) g.beats

  lies : Lies (fetching mode g) (links g) (last g)
  lies =
      record {
        chain = chain-is g.window g.memory g.pointer g.k h.form.k_owned h.form.last_unowned;
        aligned = h.form.placed.aligned;
        inside = h.form.placed.inside;
        bytes = all_map (λ l i. take-bytes 32 (drop (place_of g.window l.at) g.memory) (drop-bytes (place_of g.window l.at) g.memory (all-bytes g.memory h.bytes)))
            (every_link g) h.form.placed.inside;
        apart = h.form.placed.apart;
      }

  pub all-ready : Ready (fetching mode g) ss
  all-ready =
      ready mode (links g) (links g) (fetching mode g) g.memory refl (alike_self h.lent) linked (own mode g h.asks) h.lands h.room

  pub k-shares : length ss ≡ g.k
  k-shares = length-shares mode g.window g.memory (links g) g.beats ∙ length-links g.window g.memory g.pointer g.k

  at-chain : AtChain (fetching mode g) ss (last g)
  at-chain =
      record {
        fetching = refl;
        set = set_so mode g h.run_set h.park_clear;
        lent = h.lent;
        lies = subst⁻¹ (λ (ls : List Link). Lies (fetching mode g) ls (last g)) theirs lies;
        ledger = rw k-shares h.ledger;
        lands = h.lands;
        outside = subst⁻¹ (λ (ls : List Link). All (λ s. All (λ l. Off l s.to) (ls ++ last g ∷ [])) (sent_by_all ss)) theirs h.outside;
        sees = nothing-ahead (fetching mode g) refl;
        ready = all-ready;
      }

  walked : Walked (fetching mode g) ss (last g)
  walked = walk ss (fetching mode g) (last g) at-chain

  -- of the links, so of the shares
  of_shares : (P : Link → Type 0) → All P (links g) → All (λ (s : Share). P s.link) ss
  of_shares P a = all-linked P ss (subst⁻¹ (All P) theirs a)

  way : Along (λ w. FirstFew g.window g.memory ss w.memory) (2 + cost ss) (resting mode g) walked.last
  way =
      subst (λ (n : ℕ). Along (λ w. FirstFew g.window g.memory ss w.memory) n (resting mode g) walked.last)
      (let x : suc (cost ss + 1) ≡ 2 + cost ss = omega arith in x)
      (more (along-first walked.along).few (rest-step (resting mode g) refl at-chain.set.runs) (along-map (λ w i. i.few) walked.along))

  -- where the run ends
  abbrev report : Report
  report = record { reason = Ended; steps = 2 + cost ss; world = walked.last }

  outcome : OutcomeOf g ss (ran_as g.used (resting mode g) report) walked.last.memory
  outcome =
      let given-taken : taken_since (resting mode g) walked.last ≡ given ss = omega (arith, walked.taken) in
      record {
        reason = refl;
        steps = refl;
        done = walked.done;
        sum = subst (λ (ls : List Link). counts g.window walked.last.memory ls ≡ moved_by_all ss) theirs
            (counts-moved g.window walked.last.memory ss walked.done);
        landed = landed-last g.window g.memory walked.last.memory (links g) (sent_by_all ss) h.lands
            (all_map (λ s a. all_left (λ l. Off l s.to) (links g) (last g ∷ []) a) (sent_by_all ss) h.outside)
            (λ p o. walked.bytes p (of_shares (OffFour g.window p) o));
        frame = λ p a b. walked.bytes p (of_shares (OffFour g.window p) b) ∙ lastAt-none (g.window.base + p) (sent_by_all ss) (get_or g.memory p 0) a;
        size = walked.size;
        taken = given-taken;
        made = ap length walked.made;
        used = ap (λ (n : ℕ). g.used + n) (ap length walked.records ∙ length-records ss ∙ k-shares);
        pointer = walked.pointer;
      }

  ends : EndsIn mode g report
  ends = record { outcome = outcome; output = walked.made; records = walked.records }

-- With budget enough: for every budget at least that number.
pub in-each-mode : InEachMode
in-each-mode mode g h budget k =
    subst⁻¹ (λ (w : World). EndsIn mode g (run budget w)) (starts mode g h.run_set)
    (subst⁻¹ (EndsIn mode g) (run-to-end (way mode g h) (walked mode g h).stops budget k) (ends mode g h))

-- After every step those of the k marked done are the first few of the chain, each with its count.
pub in-each-mode-at-every-step : InEachModeAtEveryStep
in-each-mode-at-every-step mode g h =
    record {
      first_few = λ b. subst⁻¹ (λ (w : World). FirstFew g.window g.memory (ss mode g h) (run b w).world.memory) (starts mode g h.run_set)
          (run-on-way (way mode g h) (walked mode g h).stops b);
      spent = λ b k. subst⁻¹ (λ (w : World). ((run b w).steps ≡ b) × ((run b w).reason ≡ Budget)) (starts mode g h.run_set) (run_short (way mode g h) b k);
    }
