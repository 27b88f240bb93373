-- The premises of order 10 can be met, and what is concluded there in numbers: a copy onto itself, and six beats sent, with two packets among them.
-- Assumes nothing.
use Prim.Native.Nat.{ℕ, ◌≤◌}
use mathlib.Core.Path.{refl}
use native.Mathlib.Omega.{arith}
use Rattle.bus.specs.Window.{in_window}
use Rattle.descriptor.specs.Layout.{bytes_for, descriptor_at}
use Rattle.regs.specs.declared.Mode.TheVariants.{MemoryToMemory, MemoryToStream}
use Rattle.machine.specs.Run.{run}
use Rattle.links.specs.Form.{All, Off}
use Rattle.chain.specs.Chain.{world_in, every_link, sent_by_all}
use Rattle.chain.specs.Modes.{shares_in, PremisesIn, EndsIn}
use Rattle.chain.specs.Known.{after, copier, sender}
use Rattle.chain.specs.Theorems.{ChainOfCopies, ChainOfPackets}
use Rattle.chain.proofs.Theorem.{in-each-mode}
use Rattle.chain.proofs.Instances.{are-bytes, landed-nth, four-apart}

-- ---- from memory to memory

copier-off : (q : ℕ) → 4192 ≤ q → All (λ l. Off l q) (every_link copier)
unfolding descriptor_at bytes_for
copier-off q h = (λ i a. omega arith, (λ i a. omega arith, (λ i a. omega arith, tt)))

copier-meets : PremisesIn MemoryToMemory copier
unfolding descriptor_at bytes_for in_window
copier-meets =
    let off = copier-off in
    record {
      run_set = refl;
      park_clear = refl;
      lent = refl;
      bytes = are-bytes copier.memory refl;
      form = record {
        k_owned = (refl, (refl, tt));
        last_unowned = refl;
        placed = record {
          aligned = (refl, (refl, (refl, tt)));
          inside = (refl, (refl, (refl, tt)));
          apart = ((λ i a j b. omega arith, (λ i a j b. omega arith, tt)), ((λ i a j b. omega arith, tt), (tt, tt)));
        };
      };
      ledger = omega arith;
      room = omega arith;
      lands = (refl, (refl, (refl, (refl, (refl, (refl, (refl, (refl, tt))))))));
      outside = (
        off 4226 (omega arith),
        (
          off 4227 (omega arith),
          (
            off 4228 (omega arith),
            (off 4229 (omega arith), (off 4230 (omega arith), (off 4240 (omega arith), (off 4241 (omega arith), (off 4242 (omega arith), tt))))),
          ),
        ),
      );
      asks = (
        record {
          some = λ e. omega arith;
          inside = (refl, (refl, (refl, (refl, (refl, tt)))));
          outside = (
            off 4224 (omega arith),
            (off 4225 (omega arith), (off 4226 (omega arith), (off 4227 (omega arith), (off 4228 (omega arith), tt)))),
          );
        },
        (
          record {
            some = λ e. omega arith;
            inside = (refl, (refl, (refl, tt)));
            outside = (off 4230 (omega arith), (off 4230 (omega arith), (off 4230 (omega arith), tt)));
          },
          tt,
        ),
      );
    }

copier-ends : EndsIn MemoryToMemory copier (run 100 (world_in MemoryToMemory copier))
unfolding descriptor_at bytes_for
copier-ends = in-each-mode MemoryToMemory copier copier-meets 100 (omega arith)

pub chain-of-copies : ChainOfCopies
unfolding descriptor_at bytes_for
chain-of-copies =
    let o = copier-ends.outcome in
    let byte = landed-nth copier.window (sent_by_all (shares_in MemoryToMemory copier)) (after MemoryToMemory copier).memory o.landed in
    record {
      meets = copier-meets;
      reason = o.reason;
      steps_are = o.steps;
      taken_are = o.taken;
      pointer_is = o.pointer;
      fours_are = (o.done.0.four, (o.done.1.0.four, tt));
      landed_are = (
        byte 0 (omega arith) refl,
        (
          byte 1 (omega arith) refl,
          (
            byte 2 (omega arith) refl,
            (
              byte 3 (omega arith) refl,
              (
                byte 4 (omega arith) refl,
                (byte 5 (omega arith) refl, (byte 6 (omega arith) refl, (byte 7 (omega arith) refl, tt))),
              ),
            ),
          ),
        ),
      );
      beats_are = copier-ends.output;
    }

-- ---- from memory to stream

sender-off : (q : ℕ) → 4224 ≤ q → All (λ l. Off l q) (every_link sender)
unfolding descriptor_at bytes_for
sender-off q h = (λ i a. omega arith, (λ i a. omega arith, (λ i a. omega arith, (λ i a. omega arith, tt))))

sender-meets : PremisesIn MemoryToStream sender
unfolding descriptor_at bytes_for in_window
sender-meets =
    record {
      run_set = refl;
      park_clear = refl;
      lent = refl;
      bytes = are-bytes sender.memory refl;
      form = record {
        k_owned = (refl, (refl, (refl, tt)));
        last_unowned = refl;
        placed = record {
          aligned = (refl, (refl, (refl, (refl, tt))));
          inside = (refl, (refl, (refl, (refl, tt))));
          apart = four-apart sender.window sender.memory;
        };
      };
      ledger = omega arith;
      room = omega arith;
      lands = tt;
      outside = tt;
      asks = (
        record {
          some = λ e. omega arith;
          inside = (refl, (refl, (refl, tt)));
          outside = (sender-off 4224 (omega arith), (sender-off 4225 (omega arith), (sender-off 4226 (omega arith), tt)));
        },
        (
          record { some = λ e. omega arith; inside = (refl, tt); outside = (sender-off 4225 (omega arith), tt) },
          (
            record {
              some = λ e. omega arith;
              inside = (refl, (refl, tt));
              outside = (sender-off 4226 (omega arith), (sender-off 4226 (omega arith), tt));
            },
            tt,
          ),
        ),
      );
    }

sender-ends : EndsIn MemoryToStream sender (run 100 (world_in MemoryToStream sender))
unfolding descriptor_at bytes_for
sender-ends = in-each-mode MemoryToStream sender sender-meets 100 (omega arith)

pub chain-of-packets : ChainOfPackets
unfolding descriptor_at bytes_for
chain-of-packets =
    let o = sender-ends.outcome in
    record {
      meets = sender-meets;
      reason = o.reason;
      steps_are = o.steps;
      taken_are = o.taken;
      pointer_is = o.pointer;
      fours_are = (o.done.0.four, (o.done.1.0.four, (o.done.1.1.0.four, tt)));
      landed_are = tt;
      beats_are = sender-ends.output;
    }
