-- A moved image as the code makes it: the bytes of the old one, as many as the new one has, with the edition's number in the first four
-- bits. `moved-bytes` says that this is the image.
-- Assumes nothing.
use Rattle.std.specs.Prelude.{ℕ, zero, suc, ◌+◌, ◌*◌, ◌%◌, List, [], ◌∷◌, get_or, set}

-- the first n bytes; zeros where there are no more
abbrev pub resized : ℕ → List ℕ → List ℕ
resized zero xs = []
resized (suc n) [] = 0 ∷ resized n []
resized (suc n) (x ∷ xs) = x ∷ resized n xs

unfoldable pub moved_bytes : (edition n : ℕ) → List ℕ → List ℕ
moved_bytes edition n xs = set (resized n xs) 0 (edition * 16 + get_or xs 0 0 % 16)
