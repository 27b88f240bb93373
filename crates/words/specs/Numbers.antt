-- Numbers of given widths standing side by side, bits most significant first, and what they are at other widths.
-- Assumes nothing.
use Rattle.std.specs.Prelude.{ℕ, ◌+◌, ◌*◌, ◌/◌, ◌%◌, ◌^◌, ◌<◌, List, [], ◌∷◌, replicate}

-- how many bits the widths have together
abbrev pub total : List ℕ → ℕ
total [] = 0
total (w ∷ ws) = w + total ws

-- the one number that the bits of the values make, the first value's foremost
abbrev pub join : List ℕ → List ℕ → ℕ
join [] vs = 0
join (w ∷ ws) [] = 0
join (w ∷ ws) (v ∷ vs) = v * 2 ^ total ws + join ws vs

-- a number cut into values of these widths: each is the number without the bits behind it, and of that its own bits
abbrev pub split : List ℕ → ℕ → List ℕ
split [] n = []
split (w ∷ ws) n = n / 2 ^ total ws % 2 ^ w ∷ split ws n

-- values of the widths `from`, read again at the widths `to`
abbrev pub recode : List ℕ → List ℕ → List ℕ → List ℕ
recode from to vs = split to (join from vs)

-- the widths of n bytes
abbrev pub bytes : ℕ → List ℕ
bytes n = replicate n 8

-- each value has no more bits than its width, and there are as many as widths
abbrev pub Fit : List ℕ → List ℕ → Type 0
Fit [] [] = Unit
Fit [] (v ∷ vs) = ⊥
Fit (w ∷ ws) [] = ⊥
Fit (w ∷ ws) (v ∷ vs) = (v < 2 ^ w) × Fit ws vs
