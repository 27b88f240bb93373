-- Demand 3, as the stream-to-memory case.
-- Assumes nothing.
use Prim.Native.Nat.{ℕ, ◌+◌, ◌≤◌}
use mathlib.Core.Path.{◌≡◌, refl, sym, ap, subst, subst⁻¹, ◌∙◌}
use mathlib.Core.Bool.{true}
use mathlib.Core.List.{List, [], ◌∷◌}
use native.Mathlib.Omega.{arith}
use lib.ListN.{length}
use Rattle.bus.specs.declared.Window.{Window}
use Rattle.bus.specs.Window.{in_window}
use Rattle.regs.specs.declared.Mode.TheVariants.{StreamToMemory}
use Rattle.machine.specs.declared.Ran.{Ran}
use Rattle.machine.specs.Run.{run}
use Rattle.links.specs.Form.{All, Link, Off}
use Rattle.chain.specs.Chain.{Given, world_for, links, every_link, Share, share_of, shares_of, shares, given, cost, records_of, sent_by_all, Premises, EveryStep, Outcome}
use Rattle.chain.specs.Modes.{writes, share_in, shares_from, shares_in, made_by_all, moved_by_all, PremisesIn, OutcomeOf, EndsIn}
use Rattle.chain.specs.Theorems.{ChainTheorem, ChainRecords, ChainAtEveryStep}
use Rattle.chain.proofs.Theorem.{in-each-mode, in-each-mode-at-every-step}

-- memory has no part in what the stream gives
from-stream : (w : Window) (m : List ℕ) (ls : List Link) (bs : List ℕ) → shares_from StreamToMemory w m ls bs ≡ shares_of ls bs
from-stream w m [] bs = refl
from-stream w m (l ∷ ls) bs = ap (λ (x : List Share). share_of l bs ∷ x) (from-stream w (writes w (share_in StreamToMemory w m l bs).sent m) ls _)

pub same-shares : (g : Given) → shares_in StreamToMemory g ≡ shares g
same-shares g = from-stream g.window g.memory (links g) g.beats

none_made : (ls : List Link) (bs : List ℕ) → made_by_all (shares_of ls bs) ≡ []
none_made [] bs = refl
none_made (l ∷ ls) bs = none_made ls _

pub no-beats : (g : Given) → made_by_all (shares_in StreamToMemory g) ≡ []
no-beats g = ap made_by_all (same-shares g) ∙ none_made (links g) g.beats

-- each byte moved is a beat taken
moved-given : (ls : List Link) (bs : List ℕ) → moved_by_all (shares_of ls bs) ≡ given (shares_of ls bs)
moved-given [] bs = refl
moved-given (l ∷ ls) bs = ap (λ (n : ℕ). (share_of l bs).taken + n) (moved-given ls _)

pub premises : (g : Given) → Premises g → PremisesIn StreamToMemory g
premises g h =
    record {
      run_set = h.run_set;
      park_clear = h.park_clear;
      lent = h.lent;
      bytes = h.bytes;
      form = h.form;
      ledger = h.ledger;
      room = subst⁻¹ (λ (bs : List ℕ). length bs ≤ g.room) (no-beats g) (omega arith);
      lands = subst⁻¹ (λ (ss : List Share). All (λ s. in_window g.window s.to 1 ≡ true) (sent_by_all ss)) (same-shares g) h.lands;
      outside = subst⁻¹ (λ (ss : List Share). All (λ s. All (λ l. Off l s.to) (every_link g)) (sent_by_all ss)) (same-shares g) h.outside;
      asks = record { stop_clear = h.stop_clear; stream = h.stream };
    }

-- the outcome in demand 3's words
pub in-its-words : (g : Given) (ran : Ran) (memory : List ℕ) → OutcomeOf g (shares_in StreamToMemory g) ran memory → Outcome g ran memory
in-its-words g ran memory there =
    let o : OutcomeOf g (shares g) ran memory = subst (λ (ss : List Share). OutcomeOf g ss ran memory) (same-shares g) there in
    record {
      reason = o.reason;
      steps = o.steps;
      done = o.done;
      sum = o.sum ∙ moved-given (links g) g.beats ∙ sym o.taken;
      landed = o.landed;
      frame = o.frame;
      size = o.size;
      taken = o.taken;
      made = o.made ∙ ap length (none_made (links g) g.beats);
      used = o.used;
      pointer = o.pointer;
    }

-- the same number of steps is enough
pub same-cost : (g : Given) {budget : ℕ} → 2 + cost (shares g) ≤ budget → 2 + cost (shares_in StreamToMemory g) ≤ budget
same-cost g {budget} k = subst⁻¹ (λ (ss : List Share). 2 + cost ss ≤ budget) (same-shares g) k

ends : (g : Given) → Premises g → (budget : ℕ) → 2 + cost (shares g) ≤ budget → EndsIn StreamToMemory g (run budget (world_for g))
ends g h budget k = in-each-mode StreamToMemory g (premises g h) budget (same-cost g k)

pub chain-theorem : ChainTheorem
chain-theorem g h budget k = in-its-words g _ _ (ends g h budget k).outcome

pub chain-records : ChainRecords
chain-records g h budget k = (ends g h budget k).records ∙ ap (records_of 1) (same-shares g)

-- and no beat is made
pub no_output : (g : Given) → Premises g → (budget : ℕ) → 2 + cost (shares g) ≤ budget → (run budget (world_for g)).world.output ≡ []
no_output g h budget k = (ends g h budget k).output ∙ no-beats g

pub chain-at-every-step : ChainAtEveryStep
chain-at-every-step g h =
    subst (EveryStep g (world_for g)) (same-shares g) (in-each-mode-at-every-step StreamToMemory g (premises g h))
