-- What stays of the descriptors in memory while bytes are sent and descriptors are marked.
-- Assumes nothing.
use Prim.Native.Nat.{ℕ, ◌+◌, ◌%◌, ◌≤◌, ◌<◌}
use mathlib.Core.Path.{◌≡◌, refl, sym, ap, subst, ◌∙◌}
use mathlib.Core.Logic.{◌≢◌}
use mathlib.Core.Bool.{true}
use mathlib.Core.List.{List, ◌∷◌, ◌++◌}
use native.Mathlib.Omega.{arith}
use lib.ListN.{length, get_or, set, length-set}
use lib.Seq.{get_or-set_other}
use Rattle.words.specs.Slices.{part}
use Rattle.words.proofs.Slices.{part-part}
use Rattle.bus.specs.declared.Window.{Window}
use Rattle.bus.specs.Window.{in_window, place_of}
use Rattle.descriptor.specs.declared.Descriptor.{Descriptor}
use Rattle.descriptor.specs.Layout.{owned, descriptor_at, last_four}
use Rattle.links.specs.Form.{All, Link, link_at, Off, Apart}
use Rattle.chain.specs.Chain.{Share, Sent, sent_by_all, Done, Waiting, FirstFew}
use Rattle.chain.proofs.Lists.{all_map, all_right}
use Rattle.chain.proofs.Memory.{Placed, placed, part_ext, says_same, actual-says, control-says, cleared, last_at, lastAt-last}

-- the 32 bytes of a descriptor are in m as in o
abbrev pub Same : Window → List ℕ → List ℕ → Link → Type 0
Same w m o l = part m (place_of w l.at) 32 ≡ part o (place_of w l.at) 32

-- ---- places that are written to

-- no byte of these is sent to the place p
abbrev pub OffBytes : Window → List Sent → ℕ → Type 0
OffBytes w ss p = All (λ s. s.to ≢ w.base + p) ss

-- the place p is none of the descriptor's last four
abbrev pub OffFour : Window → ℕ → Link → Type 0
OffFour w p l = (j : ℕ) → j < 4 → w.base + p ≢ l.at + (28 + j)

module _ (w : Window) (l : Link) (h : Placed w l.at 32) (i : ℕ) (k : i < 32) where
  -- a descriptor's places are off what is off the descriptor
  off-bytes : (ss : List Sent) → All (λ s. Off l s.to) ss → OffBytes w ss (place_of w l.at + i)
  off-bytes ss a = all_map (λ s o e. o i k (let f : s.to ≡ w.base + (place_of w l.at + i) = e in omega (arith, h.address))) ss a

  pub off-four : (x : Link) → Apart l x → OffFour w (place_of w l.at + i) x
  off-four x o j g e =
      o i k (28 + j) (omega arith) (let f : w.base + (place_of w l.at + i) ≡ x.at + (28 + j) = e in omega (arith, h.address))

pub apart-sym : (l x : Link) → Apart l x → Apart x l
apart-sym l x h i a j b e = h j b i a (sym e)

-- ---- while the bytes ss of one descriptor are sent

pub record BlocksKept (w : Window) (before : List ℕ) (ss : List Sent) (m : List ℕ) : Type 0 where
  pub size : length m ≡ length before
  pub frame : (p : ℕ) → OffBytes w ss p → get_or m p 0 ≡ get_or before p 0

pub kept-none : (w : Window) (m : List ℕ) (ss : List Sent) → BlocksKept w m ss m
kept-none w m ss = record { size = refl; frame = λ p o. refl }

pub kept_byte : (w : Window) (before : List ℕ) (ss : List Sent) (m : List ℕ) (s : Sent) → Placed w s.to 1
    → ((p : ℕ) → OffBytes w ss p → s.to ≢ w.base + p) → BlocksKept w before ss m → BlocksKept w before ss (set m (place_of w s.to) s.byte)
kept_byte w before ss m s h o k =
    record {
      size = length-set m (place_of w s.to) s.byte ∙ k.size;
      frame = λ p a. get_or-set_other m (place_of w s.to) p s.byte 0 (λ e. o p a (let f : p ≡ place_of w s.to = e in omega (arith, h.address)))
          ∙ k.frame p a;
    }

pub kept_block : {w : Window} {before : List ℕ} {ss : List Sent} {m : List ℕ} → BlocksKept w before ss m → (l : Link) → Placed w l.at 32
    → All (λ s. Off l s.to) ss → Same w m before l
kept_block {w = w} {before = before} {ss = ss} {m = m} k l h a =
    part_ext m before (place_of w l.at) 32 k.size (λ i g. k.frame (place_of w l.at + i) (off-bytes w l h i g ss a))

-- ---- along a whole chain

pub record Inv (w : Window) (before : List ℕ) (ss : List Share) (m : List ℕ) : Type 0 where
  pub size : length m ≡ length before
  pub frame : (p : ℕ) → OffBytes w (sent_by_all ss) p → All (λ (s : Share). OffFour w p s.link) ss → get_or m p 0 ≡ get_or before p 0
  pub few : FirstFew w before ss m

pub inv-block : {w : Window} {before : List ℕ} {ss : List Share} {m : List ℕ} → Inv w before ss m → (l : Link) → Placed w l.at 32
    → All (λ s. Off l s.to) (sent_by_all ss) → All (λ (s : Share). Apart l s.link) ss
    → Same w m before l
inv-block {w = w} {before = before} {ss = ss} {m = m} v l h a b =
    part_ext m before (place_of w l.at) 32 v.size
    (λ i g. v.frame (place_of w l.at + i) (off-bytes w l h i g (sent_by_all ss) a) (all_map (λ s o. off-four w l h i g s.link o) ss b))

-- ---- a descriptor done, and one waiting

-- it is done once its last four bytes are written
pub done-by-four : (w : Window) (m : List ℕ) (s : Share) → place_of w s.link.at + 32 ≤ length m → s.count < 65536
    → part m (place_of w s.link.at + 28) 4 ≡ last_four s.count s.errors (s.link.says.control.0 % 128)
    → Done w m s
done-by-four w m s f b e =
    record {
      marked = ap owned (control-says m _ _ _ _ f e) ∙ cleared s.link.says.control.0;
      count = actual-says m _ _ _ _ f e b;
      four = e;
    }

-- and stays so while its 32 bytes are the same
pub done-stays : (w : Window) (m o : List ℕ) (s : Share) → length o ≡ length m → Same w o m s.link → Done w m s → Done w o s
done-stays w m o s l e d =
    let says : descriptor_at o (place_of w s.link.at) ≡ descriptor_at m (place_of w s.link.at) = says_same o m _ l e in
    let p : ℕ = place_of w s.link.at in
    record {
      marked = ap (λ (x : Descriptor). owned x.control.0) says ∙ d.marked;
      count = ap (λ (x : Descriptor). x.actual) says ∙ d.count;
      four = sym (part-part o p 32 28 4 (omega arith)) ∙ ap (λ (x : List ℕ). part x 28 4) e ∙ part-part m p 32 28 4 (omega arith) ∙ d.four;
    }

pub waits : (w : Window) (m o : List ℕ) (s : Share) → length o ≡ length m → owned (link_at w m s.link.at).says.control.0 ≡ true
    → Same w o m s.link → Waiting w m o s
waits w m o s l h e =
    record { unmarked = ap (λ (x : Descriptor). owned x.control.0) (says_same o m _ l e) ∙ h; same = e }

-- ---- the last byte sent to a place stands there

module _ (w : Window) (before after : List ℕ) (ls : List Link) (ss : List Sent)
    (inside : All (λ s. in_window w s.to 1 ≡ true) ss) (outside : All (λ s. All (λ l. Off l s.to) ls) ss)
    (bytes : (p : ℕ) → All (OffFour w p) ls → get_or after p 0 ≡ last_at (w.base + p) ss (get_or before p 0)) where
  pub landed-last : (first rest : List Sent) (s : Sent) → ss ≡ first ++ s ∷ rest → All (λ later. later.to ≢ s.to) rest
      → get_or after (place_of w s.to) 0 ≡ s.byte
  landed-last first rest s e a =
      let p : ℕ = place_of w s.to in
      let at : Placed w s.to 1 =
      placed _ _ _ (all_right (λ x. in_window w x.to 1 ≡ true) first (s ∷ rest) (subst (All (λ x. in_window w x.to 1 ≡ true)) e inside)).0 in
      let off : All (λ l. Off l s.to) ls =
      (all_right (λ x. All (λ l. Off l x.to) ls) first (s ∷ rest) (subst (All (λ x. All (λ l. Off l x.to) ls)) e outside)).0 in
      bytes p (all_map (λ l o j k f. o (28 + j) (omega arith) (sym at.address ∙ f)) ls off)
      ∙ ap (λ (q : ℕ). last_at q ss (get_or before p 0)) at.address
      ∙ ap (λ (x : List Sent). last_at s.to x (get_or before p 0)) e
      ∙ lastAt-last s first rest (get_or before p 0) a
