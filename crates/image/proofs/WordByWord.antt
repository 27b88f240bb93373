-- The image's fields, met a word of 32 bits at a time, as the code that reads them meets them.
-- Assumes nothing.
use Prim.Native.Nat.{ℕ, ◌+◌, ◌*◌, ◌/◌, ◌%◌, ◌^◌, ◌<◌, ◌≤◌}
use mathlib.Core.Path.{◌≡◌, refl, sym, ap, subst, ◌∙◌}
use mathlib.Core.List.{List, [], ◌∷◌, ◌++◌, map}
use native.Mathlib.Nat.{zero-add, div-one, mod-eq_of_lt}
use native.Mathlib.Omega.{arith}
use lib.ListN.{length, take, drop, get_or, length-drop}
use lib.Seq.{drop-drop, drop-cons, length-take-le}
use lib.Dec.{lit≤}
use Rattle.words.specs.declared.Order.TheVariants.{MostFirst}
use Rattle.words.specs.Numbers.{join, split, recode, bytes, Fit}
use Rattle.words.specs.Orders.{number_of}
use Rattle.words.specs.Slices.{part, number_at, AllBytes}
use Rattle.words.proofs.Bytes.{bytes_fit, take-bytes, drop-bytes}
use Rattle.words.proofs.Slices.{number_in, part-part}
use Rattle.words.proofs.Recode.{join-lt}
use Rattle.words.proofs.Groups.{recodes, Even, parts, fours, recode-groups, parts_all, parts-fit, number-join, number_lt}
use Rattle.descriptor.specs.declared.Raw.{Raw}
use Rattle.descriptor.specs.Looking.{raw_at}
use Rattle.descriptor.proofs.Looks.{raw-in}
use Rattle.image.specs.declared.Tail.{Tail}
use Rattle.image.specs.Slot.{slot_raw, tail_from}
use Rattle.image.specs.Layout.{widths_of, fields_in, tail_in, widths, from_numbers, fields, tail}
use Rattle.image.specs.Helpers.InWords.{head_widths, sizes_widths, done_widths, of_words}
use Rattle.image.proofs.SlotBytes.{slot_of}
use Rattle.image.proofs.RoundTrip.{tail-sized}

-- ---- words of bytes

-- four bytes for each run of fields
abbrev four_each : List (List ℕ) → List ℕ
four_each fs = map (λ f. 4) fs

-- the words of a slice from a place on, as many as there are runs
abbrev words_at : List ℕ → ℕ → List (List ℕ) → List ℕ
words_at xs at [] = []
words_at xs at (f ∷ fs) = number_at MostFirst 4 xs at ∷ words_at xs (at + 4) fs

-- each word cut into its run
abbrev splits : List (List ℕ) → List ℕ → List ℕ
splits [] ws = []
splits (f ∷ fs) [] = []
splits (f ∷ fs) (w ∷ ws) = split f w ++ splits fs ws

cut-words : (fs : List (List ℕ)) (xs : List ℕ) (at : ℕ) → at + 4 * length fs ≤ length xs
    → recodes (fours fs) fs (parts (drop at xs) (four_each fs)) ≡ splits fs (words_at xs at fs)
cut-words [] xs at h = refl
cut-words (f ∷ fs) xs at h =
    rw (number-join xs at 4 (omega arith), drop-drop 4 at xs, cut-words fs xs (at + 4) (omega arith))

-- ---- the layout in words

abbrev pub one : List ℕ
one = 32 ∷ []

abbrev words : List (List ℕ)
words = head_widths ∷ one ∷ one ∷ one ∷ one ∷ one ∷ one ∷ one ∷ sizes_widths ∷ done_widths ∷ one ∷ []

even : Even (fours words) words
even = (refl, (refl, (refl, (refl, (refl, (refl, (refl, (refl, (refl, (refl, (refl, tt)))))))))))

-- the fields of the first part are those of its words
module _ (xs : List ℕ) (l : length xs ≡ 44) (g : AllBytes xs) where
  cut : fields_in 1 xs ≡ from_numbers (splits words (words_at xs 0 words))
  unfolding fields_in
  cut =
      ap (λ (ys : List ℕ). from_numbers (recode (bytes 44) (widths_of 1) ys)) (sym (parts_all xs (four_each words) l))
      ∙ ap from_numbers (recode-groups (fours words) words (parts xs (four_each words)) even (parts-fit xs (four_each words) (omega arith) g))
      ∙ ap from_numbers (cut-words words xs 0 (omega arith))

  whole : (at : ℕ) → at + 4 ≤ 44 → number_at MostFirst 4 xs at % 2 ^ 32 ≡ number_at MostFirst 4 xs at
  whole at h = mod-eq_of_lt (number_lt xs at 4 (rw l h) g)

  core-words : fields_in 1 xs
      ≡ of_words (number_at MostFirst 4 xs 0) (number_at MostFirst 4 xs 4) (number_at MostFirst 4 xs 8) (number_at MostFirst 4 xs 12)
      (number_at MostFirst 4 xs 16) (number_at MostFirst 4 xs 20) (number_at MostFirst 4 xs 24) (number_at MostFirst 4 xs 28)
      (number_at MostFirst 4 xs 32) (number_at MostFirst 4 xs 36) (number_at MostFirst 4 xs 40)
  core-words =
      cut
      ∙ simp (
        div-one,
        whole 4 (lit≤ tt),
        whole 8 (lit≤ tt),
        whole 12 (lit≤ tt),
        whole 16 (lit≤ tt),
        whole 20 (lit≤ tt),
        whole 24 (lit≤ tt),
        whole 28 (lit≤ tt),
        whole 40 (lit≤ tt),
      )

-- ---- the whole image

-- its pieces: the first part, and what edition 2 adds, by bytes and by fields
abbrev pub sizes : List ℕ
sizes = 44 ∷ 1 ∷ 4 ∷ 32 ∷ 4 ∷ []

abbrev pub runs : List (List ℕ)
runs = widths_of 1 ∷ (2 ∷ 6 ∷ []) ∷ one ∷ (256 ∷ []) ∷ one ∷ []

same-tail : {k z a n k' z' a' n' : ℕ} {r r' : Raw} → k ≡ k' → z ≡ z' → a ≡ a' → r ≡ r' → n ≡ n'
    → ◌≡◌ {A = Tail} (record { kind = k; zero6 = z; at = a; raw = r; run = n })
    (record { kind = k'; zero6 = z'; at = a'; raw = r'; run = n' })
same-tail e0 e1 e2 e3 e4 = rw (e0, e1, e2, e3, e4)

-- the first part stands in front of an image of any edition
module _ (xs : List ℕ) (l : 44 ≤ length xs) (g : AllBytes xs) where
  front_length : length (take 44 xs) ≡ 44
  front_length = length-take-le 44 xs l

  front-number : (at : ℕ) → at + 4 ≤ 44 → number_at MostFirst 4 (take 44 xs) at ≡ number_at MostFirst 4 xs at
  front-number at h =
      number_in (take 44 xs) at MostFirst 4 (rw front_length h)
      ∙ ap (number_of MostFirst) (part-part xs 0 44 at 4 h ∙ ap (λ (n : ℕ). part xs n 4) (zero-add at))
      ∙ sym (number_in xs at MostFirst 4 (omega arith))

  pub front-words : fields_in 1 (take 44 xs)
      ≡ of_words (number_at MostFirst 4 xs 0) (number_at MostFirst 4 xs 4) (number_at MostFirst 4 xs 8) (number_at MostFirst 4 xs 12)
      (number_at MostFirst 4 xs 16) (number_at MostFirst 4 xs 20) (number_at MostFirst 4 xs 24) (number_at MostFirst 4 xs 28)
      (number_at MostFirst 4 xs 32) (number_at MostFirst 4 xs 36) (number_at MostFirst 4 xs 40)
  front-words =
      core-words (take 44 xs) front_length (take-bytes 44 xs g)
      ∙ rw (
        front-number 0 (lit≤ tt),
        front-number 4 (lit≤ tt),
        front-number 8 (lit≤ tt),
        front-number 12 (lit≤ tt),
        front-number 16 (lit≤ tt),
        front-number 20 (lit≤ tt),
        front-number 24 (lit≤ tt),
        front-number 28 (lit≤ tt),
        front-number 32 (lit≤ tt),
        front-number 36 (lit≤ tt),
        front-number 40 (lit≤ tt),
      )

module _ (xs : List ℕ) (l : length xs ≡ 85) (g : AllBytes xs) where
  pub pieces : recode (bytes 85) widths xs ≡ recodes (map bytes sizes) runs (parts xs sizes)
  pieces =
      ap (λ (ys : List ℕ). recode (bytes 85) widths ys) (sym (parts_all xs sizes l))
      ∙ recode-groups (map bytes sizes) runs (parts xs sizes)
      (refl, (refl, (refl, (refl, (refl, tt))))) (parts-fit xs sizes (omega arith) g)

  -- the fields of the first part are those of edition 1 in the image's front
  pub fields-front : fields xs ≡ fields_in 1 (take 44 xs)
  unfolding fields fields_in
  fields-front = ap from_numbers pieces

  pub fields-words : fields xs
      ≡ of_words (number_at MostFirst 4 xs 0) (number_at MostFirst 4 xs 4) (number_at MostFirst 4 xs 8) (number_at MostFirst 4 xs 12)
      (number_at MostFirst 4 xs 16) (number_at MostFirst 4 xs 20) (number_at MostFirst 4 xs 24) (number_at MostFirst 4 xs 28)
      (number_at MostFirst 4 xs 32) (number_at MostFirst 4 xs 36) (number_at MostFirst 4 xs 40)
  fields-words = fields-front ∙ front-words xs (omega arith) g

  -- a word of what edition 2 adds
  word_of : (at : ℕ) → at + 4 ≤ 85 → join (bytes 4) (part xs at 4) / 2 ^ 0 % 2 ^ 32 ≡ number_at MostFirst 4 xs at
  word_of at h =
      ap (λ (n : ℕ). n / 1 % 2 ^ 32) (number-join xs at 4 (rw l h))
      ∙ ap (λ (n : ℕ). n % 2 ^ 32) (div-one (number_at MostFirst 4 xs at))
      ∙ mod-eq_of_lt (number_lt xs at 4 (rw l h) g)

  -- the slot's bytes
  raw_of : slot_raw (join (bytes 32) (part xs 49 32) / 2 ^ 0 % 2 ^ 256) ≡ raw_at xs 49
  raw_of =
      let zs = part xs 49 32 in
      let n : length zs ≡ 32 = length-take-le 32 (drop 49 xs) (simp length-drop (omega arith)) in
      let b : AllBytes zs = take-bytes 32 (drop 49 xs) (drop-bytes 49 xs g) in
      let small : join (bytes 32) zs < 2 ^ 256 = join-lt (bytes 32) zs (subst (λ (k : ℕ). Fit (bytes k) zs) n (bytes_fit zs b)) in
      ap slot_raw (ap (λ (v : ℕ). v % 2 ^ 256) (div-one (join (bytes 32) zs)) ∙ mod-eq_of_lt small)
      ∙ slot_of zs n b
      ∙ sym (raw-in xs 49 (omega arith))

  -- the byte before them: two bits and six
  first_byte : join (bytes 1) (part xs 44 1) ≡ get_or xs 44 0
  first_byte = rw (drop-cons xs 44 0 (omega arith)) (omega arith)

  first-lt : get_or xs 44 0 < 256
  first-lt =
      rw (sym first_byte)
      (join-lt (bytes 1) (part xs 44 1) (parts-fit (drop 44 xs) (1 ∷ []) (simp length-drop (omega arith)) (drop-bytes 44 xs g)).0)

  kind-of : join (bytes 1) (part xs 44 1) / 2 ^ 6 % 2 ^ 2 ≡ get_or xs 44 0 / 64
  kind-of = rw first_byte (let h = first-lt in omega arith)

  rest_of : join (bytes 1) (part xs 44 1) / 2 ^ 0 % 2 ^ 6 ≡ get_or xs 44 0 % 64
  rest_of = rw first_byte (omega arith)

  pub tail-words : tail xs
      ≡ record {
        kind = get_or xs 44 0 / 64;
        zero6 = get_or xs 44 0 % 64;
        at = number_at MostFirst 4 xs 45;
        raw = raw_at xs 49;
        run = number_at MostFirst 4 xs 81;
      }
  unfolding tail_in
  tail-words =
      tail-sized xs l
      ∙ ap tail_from pieces
      ∙ rw (drop-drop 1 44 xs, drop-drop 4 45 xs, drop-drop 32 49 xs)
      (same-tail kind-of rest_of (word_of 45 (lit≤ tt)) raw_of (word_of 81 (lit≤ tt)))
