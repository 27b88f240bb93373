-- What is told of the chosen port, and a new controller, as the words that are put.
-- Assumes nothing.
use Prim.Native.Nat.{ℕ, ◌+◌, ◌*◌, ◌/◌, ◌%◌, ◌≤◌, ◌<◌}
use mathlib.Core.Path.{◌≡◌, sym, ap, ◌∙◌}
use mathlib.Core.List.{List, [], ◌∷◌, ◌++◌}
use native.Mathlib.Nat.{mod-lt}
use native.Mathlib.Omega.{arith}
use lib.ListN.{length, replicate}
use Rattle.words.specs.declared.Order.TheVariants.{MostFirst}
use Rattle.words.specs.Orders.{bytes_of, row_bytes, word_bytes}
use Rattle.words.specs.Slices.{put_at}
use Rattle.words.proofs.Slices.{put_all}
use Rattle.vic.specs.Layout.{ports, config, set_of, mask_of, fresh}
use Rattle.vic.specs.Choice.{level, chosen_port, chosen_level, handler}
use Rattle.vic.specs.Calls.{load_number, answer_widths, told}
use Rattle.vic.proofs.Choosing.{held}
use Rattle.vic.proofs.Ruling.{sound_ports}
use Rattle.vic.proofs.Refusing.{loaded}

four : {a b c d x y z w : ℕ} → a ≡ x → b ≡ y → c ≡ z → d ≡ w → a ∷ b ∷ c ∷ d ∷ [] ≡ x ∷ y ∷ z ∷ w ∷ []
four e f g h = cc

-- ---- a new controller

first_word : (n : ℕ) → n ≤ 32 → bytes_of MostFirst 4 (n * 0x100_0000) ≡ row_bytes MostFirst (1 ∷ 3 ∷ []) (n ∷ 0 ∷ [])
first_word n h = four (omega arith) (omega arith) (omega arith) (omega arith)

pub fresh_put : (xs : List ℕ) (n v b : ℕ) → xs ≡ replicate 88 0 → n ≤ 32 → put_at xs 0 (word_bytes MostFirst (n * 0x100_0000 ∷ v ∷ b ∷ [])) ≡ fresh n v b
unfolding put_at
fresh_put xs n v b e h =
    ap (λ (zs : List ℕ). put_at zs 0 (word_bytes MostFirst (n * 0x100_0000 ∷ v ∷ b ∷ []))) e
    ∙ ap (λ (ys : List ℕ). ys ++ bytes_of MostFirst 4 v ++ bytes_of MostFirst 4 b ++ replicate 76 0) (first_word n h)

-- ---- the answer

head-word : (p : ℕ) → p < 32 → bytes_of MostFirst 4 (0x1_0000 + p) ≡ row_bytes MostFirst (2 ∷ 2 ∷ []) (1 ∷ p ∷ [])
head-word p h = four (omega arith) (omega arith) (omega arith) (omega arith)

parts-word : (l s m : ℕ) → l < 64 → s < 64 → m < 2
    → bytes_of MostFirst 4 (l * 0x100_0000 + s * 0x1_0000 + m) ≡ row_bytes MostFirst (1 ∷ 1 ∷ 2 ∷ []) (l ∷ s ∷ m ∷ [])
parts-word l s m h i j = four (omega arith) (omega arith) (omega arith) (omega arith)

pub told_put : (ys : List ℕ) (c own p l a : ℕ) → own ≡ c → p < 32 → l < 64 → length ys ≡ 12
    → put_at ys 0 (word_bytes MostFirst ((0x1_0000 + p) ∷ (l * 0x100_0000 + own / 128 % 64 * 0x1_0000 + own / 64 % 2) ∷ a ∷ []))
    ≡ row_bytes MostFirst answer_widths (1 ∷ p ∷ l ∷ set_of c ∷ mask_of c ∷ a ∷ [])
told_put ys c own p l a e h i s =
    let parts = parts-word l (c / 128 % 64) (c / 64 % 2) i (mod-lt (c / 128) (omega arith)) (mod-lt (c / 64) (omega arith)) in
    put_all ys (word_bytes MostFirst ((0x1_0000 + p) ∷ (l * 0x100_0000 + own / 128 % 64 * 0x1_0000 + own / 64 % 2) ∷ a ∷ [])) (sym s)
    ∙ ap (λ (o : ℕ). word_bytes MostFirst ((0x1_0000 + p) ∷ (l * 0x100_0000 + o / 128 % 64 * 0x1_0000 + o / 64 % 2) ∷ a ∷ [])) e
    ∙ (λ x. head-word p h x ++ parts x ++ bytes_of MostFirst 4 a)

module _ (xs : List ℕ) where
  pub level-is : 0 < chosen_level xs → level xs (chosen_port xs) ≡ chosen_level xs
  level-is h = (held xs (ports xs) h).same

  pub told_is : {c p l a : ℕ} → 0 < chosen_level xs → p ≡ chosen_port xs → l ≡ chosen_level xs → c ≡ config xs p → a ≡ handler xs (chosen_port xs)
      → row_bytes MostFirst answer_widths (1 ∷ p ∷ l ∷ set_of c ∷ mask_of c ∷ a ∷ []) ≡ row_bytes MostFirst answer_widths (told xs (chosen_port xs))
  told_is {c} {p} {l} {a} some e f g h =
      let d : c ≡ config xs (chosen_port xs) = g ∙ ap (config xs) e in
      let k : l ≡ level xs (chosen_port xs) = f ∙ sym (level-is some) in
      (λ x. row_bytes MostFirst answer_widths (1 ∷ e x ∷ k x ∷ set_of (d x) ∷ mask_of (d x) ∷ h x ∷ []))

pub chosen_below : (xs : List ℕ) → load_number xs ≡ 0 → 0 < chosen_level xs → (chosen_port xs < 32) × (chosen_level xs < 64)
chosen_below xs e h =
    let it = held xs (ports xs) h in
    let most : ports xs ≤ 32 = sound_ports xs (loaded xs e).1 in
    let port : chosen_port xs < ports xs = it.port in
    let same : level xs (chosen_port xs) ≡ chosen_level xs = it.same in
    let low : level xs (chosen_port xs) < 64 = mod-lt (config xs (chosen_port xs)) (omega arith) in
    (omega (arith, most, port), omega (arith, same, low))
