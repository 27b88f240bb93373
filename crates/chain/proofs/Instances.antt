-- The premises can be met, and what is concluded there in numbers: known run 1 of the paper; and a chain of three with an EOP in
-- the second and a fixed destination in the third.
-- Assumes nothing.
use Prim.Native.Nat.{ℕ, suc, ◌≤◌, ◌<◌}
use mathlib.Core.Path.{◌≡◌, refl}
use mathlib.Core.Logic.{◌≢◌}
use mathlib.Core.Bool.{Bool, true, not, ◌&&◌}
use mathlib.Core.List.{List, [], ◌∷◌}
use native.Mathlib.Omega.{arith}
use lib.Dec.{eqb, ltb}
use lib.ListN.{length, get_or, take, drop}
use lib.Seq.{split_at}
use borrow.Author.Tests.{ltb-true, eqb-false, not-true}
use Rattle.bus.specs.declared.Window.{Window}
use Rattle.bus.specs.Window.{in_window, place_of}
use Rattle.descriptor.specs.Layout.{bytes_for, descriptor_at}
use Rattle.image.proofs.Tests.{and_left, and_right}
use Rattle.regs.specs.declared.Mode.TheVariants.{StreamToMemory}
use Rattle.links.specs.Form.{All, Pairwise, link_at, Off, Apart}
use Rattle.chain.specs.Chain.{every_link, Sent, sent, LastSent, Premises, Outcome}
use Rattle.chain.specs.Known.{after, told, known, three}
use Rattle.chain.specs.Theorems.{KnownRun1, ChainOfThree}
use Rattle.chain.proofs.Demand.{chain-theorem, no_output}

-- ---- tests that compute

abbrev bytes_only : List ℕ → Bool
bytes_only [] = true
bytes_only (x ∷ xs) = ltb x 256 && bytes_only xs

pub are-bytes : (xs : List ℕ) → bytes_only xs ≡ true → All (λ x. x < 256) xs
are-bytes [] e = tt
are-bytes (x ∷ xs) e = (ltb-true x 256 (and_left _ _ e), are-bytes xs (and_right (ltb x 256) _ e))

abbrev none_to : ℕ → List Sent → Bool
none_to q [] = true
none_to q (s ∷ ss) = not (eqb s.to q) && none_to q ss

none-to : (q : ℕ) (ss : List Sent) → none_to q ss ≡ true → All (λ s. s.to ≢ q) ss
none-to q [] e = tt
none-to q (s ∷ ss) e = (eqb-false _ _ (not-true _ (and_left _ _ e)), none-to q ss (and_right (not (eqb s.to q)) _ e))

abbrev none : Sent
none = record { to = 0; byte = 0 }

-- byte n of all that are sent, and none after it to its address
module _ (window : Window) (ss : List Sent) (memory : List ℕ) (landed : LastSent window ss memory) (n : ℕ) where
  pub landed-nth : n < length ss → none_to (get_or ss n none).to (drop (suc n) ss) ≡ true
      → get_or memory (place_of window (get_or ss n none).to) 0 ≡ (get_or ss n none).byte
  landed-nth h e = landed (take n ss) (drop (suc n) ss) (get_or ss n none) (split_at ss n none h) (none-to (get_or ss n none).to (drop (suc n) ss) e)

-- ---- known run 1

known-off : (q : ℕ) → 4160 ≤ q → All (λ l. Off l q) (every_link known)
unfolding descriptor_at bytes_for
known-off q h = (λ i a. omega arith, (λ i a. omega arith, tt))

known-meets : Premises known
unfolding descriptor_at bytes_for in_window
known-meets =
    record {
      run_set = refl;
      park_clear = refl;
      stop_clear = refl;
      lent = refl;
      bytes = are-bytes known.memory refl;
      form = record {
        k_owned = (refl, tt);
        last_unowned = refl;
        placed = record {
          aligned = (refl, (refl, tt));
          inside = (refl, (refl, tt));
          apart = ((λ i a j b. omega arith, tt), (tt, tt));
        };
      };
      stream = (refl, tt);
      ledger = omega arith;
      lands = (refl, (refl, (refl, (refl, tt))));
      outside = (known-off 4224 (omega arith), (known-off 4225 (omega arith), (known-off 4226 (omega arith), (known-off 4227 (omega arith), tt))));
    }

known-outcome : Outcome known (told StreamToMemory known) (after StreamToMemory known).memory
unfolding descriptor_at bytes_for
known-outcome = chain-theorem known known-meets 100 (omega arith)

pub known-run-1 : KnownRun1
unfolding descriptor_at bytes_for
known-run-1 =
    let o = known-outcome in
    let byte = landed-nth known.window (sent known) (after StreamToMemory known).memory o.landed in
    record {
      meets = known-meets;
      reason = o.reason;
      steps_are = o.steps;
      taken_are = o.taken;
      pointer_is = o.pointer;
      fours_are = (o.done.0.four, tt);
      landed_are = (
        byte 0 (omega arith) refl,
        (byte 1 (omega arith) refl, (byte 2 (omega arith) refl, (byte 3 (omega arith) refl, tt))),
      );
      beats_are = no_output known known-meets 100 (omega arith);
    }

-- ---- three descriptors

-- the seats of the three and of the one at their end
pub four-apart : (w : Window) (m : List ℕ) → Pairwise Apart (link_at w m 4096 ∷ link_at w m 4160 ∷ link_at w m 4128 ∷ link_at w m 4192 ∷ [])
four-apart w m = (
  (λ i x j y. omega arith, (λ i x j y. omega arith, (λ i x j y. omega arith, tt))),
  ((λ i x j y. omega arith, (λ i x j y. omega arith, tt)), ((λ i x j y. omega arith, tt), (tt, tt))),
)

three-off : (q : ℕ) → 4224 ≤ q → All (λ l. Off l q) (every_link three)
unfolding descriptor_at bytes_for
three-off q h = (λ i a. omega arith, (λ i a. omega arith, (λ i a. omega arith, (λ i a. omega arith, tt))))

three-meets : Premises three
unfolding descriptor_at bytes_for in_window
three-meets =
    record {
      run_set = refl;
      park_clear = refl;
      stop_clear = refl;
      lent = refl;
      bytes = are-bytes three.memory refl;
      form = record {
        k_owned = (refl, (refl, (refl, tt)));
        last_unowned = refl;
        placed = record {
          aligned = (refl, (refl, (refl, (refl, tt))));
          inside = (refl, (refl, (refl, (refl, tt))));
          apart = four-apart three.window three.memory;
        };
      };
      stream = (refl, (refl, (refl, tt)));
      ledger = omega arith;
      lands = (refl, (refl, (refl, (refl, (refl, (refl, (refl, (refl, tt))))))));
      outside = (
        three-off 4224 (omega arith),
        (
          three-off 4225 (omega arith),
          (
            three-off 4226 (omega arith),
            (
              three-off 4226 (omega arith),
              (three-off 4227 (omega arith), (three-off 4240 (omega arith), (three-off 4240 (omega arith), (three-off 4240 (omega arith), tt)))),
            ),
          ),
        ),
      );
    }

three-outcome : Outcome three (told StreamToMemory three) (after StreamToMemory three).memory
unfolding descriptor_at bytes_for
three-outcome = chain-theorem three three-meets 100 (omega arith)

pub chain-of-three : ChainOfThree
unfolding descriptor_at bytes_for
chain-of-three =
    let o = three-outcome in
    let byte = landed-nth three.window (sent three) (after StreamToMemory three).memory o.landed in
    record {
      meets = three-meets;
      reason = o.reason;
      steps_are = o.steps;
      taken_are = o.taken;
      pointer_is = o.pointer;
      fours_are = (o.done.0.four, (o.done.1.0.four, (o.done.1.1.0.four, tt)));
      landed_are = (
        byte 0 (omega arith) refl,
        (
          byte 1 (omega arith) refl,
          (byte 3 (omega arith) refl, (byte 4 (omega arith) refl, (byte 7 (omega arith) refl, tt))),
        ),
      );
      beats_are = no_output three three-meets 100 (omega arith);
    }
