-- The image in words of 32 bits, as the code's private parts meet it. No promise speaks of it.
-- Assumes nothing.
use Rattle.std.specs.Prelude.{ℕ, List, [], ◌∷◌, ◌++◌}
use Rattle.words.specs.Numbers.{split}
use Rattle.words.specs.Slices.{part}
use Rattle.image.specs.declared.Fields.{Fields}
use Rattle.image.specs.declared.Tail.{Tail}
use Rattle.image.specs.Layout.{values, widths, from_numbers}

-- the lines before the slot's bytes
abbrev pub front_widths : List ℕ
front_widths = part widths 0 25

abbrev pub front_values : Fields → Tail → List ℕ
front_values f t = part (values f t) 0 25

-- the widths in those words that hold several fields: the first, the ninth and the tenth
abbrev pub head_widths : List ℕ
head_widths = part widths 0 8

abbrev pub sizes_widths : List ℕ
sizes_widths = part widths 15 3

abbrev pub done_widths : List ℕ
done_widths = part widths 18 3

-- the fields of the eleven words
abbrev pub of_words : (head control pointer base window address source destination sizes done faultat : ℕ) → Fields
of_words head control pointer base window address source destination sizes done faultat =
    from_numbers
    (split head_widths head
    ++ (control ∷ pointer ∷ base ∷ window ∷ address ∷ source ∷ destination ∷ (split sizes_widths sizes ++ (split done_widths done ++ (faultat ∷ [])))))
