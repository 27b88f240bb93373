-- Memory with the marks of a chain and without them: alike wherever no mark is, so that a byte read outside the descriptors is the same.
-- Assumes nothing.
use Prim.Native.Nat.{ℕ, ◌+◌}
use mathlib.Core.Path.{◌≡◌, refl, sym, ap, ◌∙◌}
use mathlib.Core.Bool.{true, cond}
use mathlib.Core.List.{List, [], ◌∷◌}
use native.Mathlib.Omega.{arith}
use lib.Dec.{eqb}
use lib.ListN.{length, get_or, set, length-set}
use Rattle.bus.specs.declared.Window.{Window}
use Rattle.bus.specs.Window.{in_window, place_of}
use Rattle.machine.specs.Step.{World}
use Rattle.links.specs.Form.{All, Link, Off}
use Rattle.chain.specs.Chain.{Sent, Share}
use Rattle.chain.specs.Modes.{writes}
use Rattle.chain.proofs.Lists.{all_map}
use Rattle.chain.proofs.Memory.{Placed, placed, one_byte}
use Rattle.chain.proofs.Blocks.{OffFour}
use Rattle.chain.proofs.One.{window_of, after_mark, marked-off, marked-size}

-- a and b are alike but for the last four bytes of the links
pub record Alike (w : Window) (ls : List Link) (a b : List ℕ) : Type 0 where
  pub lent : length a ≡ w.length
  pub other : length b ≡ w.length
  pub same : (p : ℕ) → All (OffFour w p) ls → get_or a p 0 ≡ get_or b p 0

-- the address a can be read: it is in the window, and no mark is there
pub record Readable (w : Window) (ls : List Link) (a : ℕ) : Type 0 where
  pub inside : in_window w a 1 ≡ true
  pub off : All (OffFour w (place_of w a)) ls

pub readable : (w : Window) (ls : List Link) (a : ℕ) → in_window w a 1 ≡ true → All (λ l. Off l a) ls → Readable w ls a
readable w ls a i o =
    let at : Placed w a 1 = placed w a 1 i in
    record { inside = i; off = all_map (λ l h j k f. h (28 + j) (omega arith) (sym at.address ∙ f)) ls o }

module _ {w : Window} {ls : List Link} where
  pub alike_self : {a : List ℕ} → length a ≡ w.length → Alike w ls a a
  alike_self e = record { lent = e; other = e; same = λ p o. refl }

  -- they stay so when a byte is sent in both
  pub alike-byte : {a b : List ℕ} → Alike w ls a b → (s : Sent) → Placed w s.to 1
      → Alike w ls (set a (place_of w s.to) s.byte) (set b (place_of w s.to) s.byte)
  alike-byte {a} {b} h s at =
      record {
        lent = length-set a (place_of w s.to) s.byte ∙ h.lent;
        other = length-set b (place_of w s.to) s.byte ∙ h.other;
        same = λ p o. one_byte w p s a at h.lent ∙ ap (λ (x : ℕ). cond (eqb (w.base + p) s.to) s.byte x) (h.same p o)
            ∙ sym (one_byte w p s b at h.other);
      }

  pub alike-bytes : {a b : List ℕ} → Alike w ls a b → (ss : List Sent) → All (λ s. in_window w s.to 1 ≡ true) ss
      → Alike w ls (writes w ss a) (writes w ss b)
  alike-bytes {a = a} {b = b} h [] i = h
  alike-bytes {a = a} {b = b} h (s ∷ ss) i =
      alike-bytes {a = set a (place_of w s.to) s.byte} {b = set b (place_of w s.to) s.byte} (alike-byte h s (placed _ _ _ i.0)) ss i.1

-- and when a descriptor of the chain is done in one of them, and its bytes are sent in the other
pub alike_next : (w : World) (s : Share) (ls : List Link) (m : List ℕ) → Placed (window_of w) s.link.at 32
    → ((p : ℕ) → All (OffFour (window_of w) p) ls → OffFour (window_of w) p s.link) → All (λ x. in_window (window_of w) x.to 1 ≡ true) s.sent
    → Alike (window_of w) ls w.memory m → Alike (window_of w) ls (after_mark w s).memory (writes (window_of w) s.sent m)
alike_next w s ls m stands among lands h =
    let sent = alike-bytes h s.sent lands in
    record {
      lent = marked-size w s ∙ sent.lent;
      other = sent.other;
      same = λ p o. marked-off w s stands p (among p o) ∙ sent.same p o;
    }
