-- Demand 3 of the C calls, as the stream-to-memory case.
-- Assumes nothing.
use Prim.Native.Nat.{ℕ, ◌+◌}
use mathlib.Core.Path.{ap, subst, ◌∙◌}
use mathlib.Core.List.{List}
use lib.ListN.{length}
use Rattle.regs.specs.declared.Mode.TheVariants.{StreamToMemory}
use Rattle.answers.specs.Answers.{report_bytes}
use Rattle.chain.specs.Chain.{Given, world_for, Share, cost, given, records_of}
use Rattle.chain.specs.Modes.{shares_in}
use Rattle.chain.specs.Calls.{in_front, behind}
use Rattle.chain.proofs.Demand.{same-shares, no-beats, premises, in-its-words, same-cost}
use Rattle.chain_calls.specs.InC.{RunLeft, Lends, given_in, FoundIn, Found, FoundEveryStep}
use Rattle.chain_calls.specs.Theorems.{NoneRefused, ChainOfCalls, ChainOfCallsAtEveryStep}
use Rattle.chain_calls.proofs.InEachMode.{none-refused-in-each-mode, of-calls-in-each-mode, of-calls-in-each-mode-at-every-step}

-- what is found, in demand 3's words
pub found-in-its-words : (g : Given) (l : Lends) (left : RunLeft) → FoundIn StreamToMemory g l left → Found g l left
found-in-its-words g l left f =
    let ss : List Share = shares_in StreamToMemory g in
    record {
      told = f.told;
      is_run = f.is_run;
      outcome = in-its-words g f.told left.back.window f.outcome;
      report = f.report ∙ ap (λ (bs : List ℕ). report_bytes 1 (2 + cost ss) (given ss) (length bs) (g.used + g.k)) (no-beats g)
          ∙ ap (λ (ss : List Share). report_bytes 1 (2 + cost ss) (given ss) 0 (g.used + g.k)) (same-shares g);
      image = f.image;
      loads = f.loads;
      output = f.output ∙ ap (λ (bs : List ℕ). in_front bs l.lent.out) (no-beats g);
      ledger = f.ledger ∙ ap (λ (ss : List Share). behind (records_of 1 ss) l.lent.ledger l.lent.used) (same-shares g);
    }

pub none-refused : NoneRefused
none-refused l created pointed started left k c w h =
    none-refused-in-each-mode StreamToMemory l created pointed started left k c w (premises (given_in l k) h)

pub chain-of-calls : ChainOfCalls
chain-of-calls l created pointed started left k c w h b =
    let g : Given = given_in l k in
    found-in-its-words g l left (of-calls-in-each-mode StreamToMemory l created pointed started left k c w (premises g h) (same-cost g b))

pub chain-of-calls-at-every-step : ChainOfCallsAtEveryStep
chain-of-calls-at-every-step l created pointed started left k c w h =
    let g : Given = given_in l k in
    subst (λ (ss : List Share). FoundEveryStep (world_for g) ss l left) (same-shares g)
    (of-calls-in-each-mode-at-every-step StreamToMemory l created pointed started left k c w (premises g h))
