-- Order 8 held against verdicts that were worked out by hand from its text: the bytes of a window at its base, the pointer, and what is said.
-- Assumes nothing.
use Rattle.std.specs.Prelude.{ℕ, ◌≡◌, List, [], ◌∷◌, ◌++◌, map, length, replicate, Result, Ok, Err}
use Rattle.words.specs.declared.Order.TheVariants.{LeastFirst}
use Rattle.words.specs.Orders.{bytes_of}
use Rattle.bus.specs.declared.Refusal.{Refusal}
use Rattle.bus.specs.declared.Refusal.TheVariants.{BadWindow}
use Rattle.bus.specs.Window.{checked_of}
use Rattle.links.specs.declared.Verdict.{Verdict}
use Rattle.links.specs.declared.Kind.{Kind}
use Rattle.links.specs.declared.Kind.TheVariants.{Sound, Misaligned, Outside, Overlaps}
use Rattle.links.specs.Verdicts.{stop, verdict}
use Rattle.links.specs.Calls.{verdict_in}

-- ---- memory

abbrev pub zeros : ℕ → List ℕ
zeros n = replicate n 0

-- the 32 bytes of a descriptor, all zero but for next_desc_ptr, at +16, and desc_control, at +31
abbrev pub link : (next control : ℕ) → List ℕ
link next control = zeros 16 ++ (bytes_of LeastFirst 4 next ++ (zeros 11 ++ (control ∷ [])))

-- an owned one that leads on, and an unowned one
abbrev pub to : ℕ → List ℕ
to next = link next 0x80

abbrev pub end : List ℕ
end = link 0 0x00

-- ---- the rows

pub record Row : Type 0 where
  pub base : ℕ
  pub memory : List ℕ
  pub pointer : ℕ
  pub wanted : Result Verdict Refusal

abbrev pub at : (base : ℕ) (memory : List ℕ) (pointer : ℕ) (wanted : Result Verdict Refusal) → Row
at base memory pointer wanted = record { base = base; memory = memory; pointer = pointer; wanted = wanted }

-- in a window at 0x1000
abbrev pub here : (memory : List ℕ) (pointer : ℕ) (wanted : Result Verdict Refusal) → Row
here memory pointer wanted = at 0x1000 memory pointer wanted

abbrev pub gets : Kind → (position address : ℕ) → Result Verdict Refusal
gets kind k a = Ok (verdict kind (stop k a))

abbrev pub rows : List Row
rows =
    -- sound: k = 0, 1, 2, and from another pointer; descriptors may stand in any order
    here end 0x1000 (gets Sound 0 0x1000)
    ∷ here (to 0x1020 ++ end) 0x1000 (gets Sound 1 0x1020)
    ∷ here (to 0x1020 ++ (end ++ to 0x1000)) 0x1040 (gets Sound 2 0x1020)
    ∷ here (to 0x1020 ++ (end ++ to 0x1000)) 0x1000 (gets Sound 1 0x1020)
    -- misaligned: the first, the second, the third
    ∷ here end 0x1002 (gets Misaligned 0 0x1002)
    ∷ here (to 0x1021 ++ end) 0x1000 (gets Misaligned 1 0x1021)
    ∷ here (to 0x1020 ++ (to 0x1043 ++ end)) 0x1000 (gets Misaligned 2 0x1043)
    -- outside: the first, below the window, with its last bytes behind it, and in a window of no bytes; the second, the third
    ∷ here end 0x0ffc (gets Outside 0 0x0ffc)
    ∷ here end 0x1004 (gets Outside 0 0x1004)
    ∷ here [] 0x1000 (gets Outside 0 0x1000)
    ∷ here (to 0x1040 ++ end) 0x1000 (gets Outside 1 0x1040)
    ∷ here (to 0x1020 ++ to 0) 0x1000 (gets Outside 2 0)
    -- overlaps: one that links to itself, first and second, and a ring of two; the chain never ends
    ∷ here (to 0x1000 ++ end) 0x1000 (gets Overlaps 1 0x1000)
    ∷ here (to 0x1020 ++ to 0x1020) 0x1000 (gets Overlaps 2 0x1020)
    ∷ here (to 0x1020 ++ to 0x1000) 0x1000 (gets Overlaps 2 0x1000)
    -- four bytes in common, at either side; none on either side
    ∷ here (end ++ (to 0x1004 ++ end)) 0x1020 (gets Overlaps 1 0x1004)
    ∷ here (end ++ (to 0x103c ++ end)) 0x1020 (gets Overlaps 1 0x103c)
    ∷ here (end ++ (to 0x1000 ++ end)) 0x1020 (gets Sound 1 0x1000)
    ∷ here (end ++ (to 0x1040 ++ end)) 0x1020 (gets Sound 1 0x1040)
    -- an unowned one that overlaps is no end
    ∷ here (to 0x1010 ++ end) 0x1000 (gets Overlaps 1 0x1010)
    -- three causes at once, the last two, the last; in 40 bytes
    ∷ here (to 0x1009 ++ zeros 8) 0x1000 (gets Misaligned 1 0x1009)
    ∷ here (to 0x100c ++ zeros 8) 0x1000 (gets Outside 1 0x100c)
    ∷ here (to 0x1008 ++ zeros 8) 0x1000 (gets Overlaps 1 0x1008)
    -- a base that is no multiple of 4; the end of the bus, where no address wraps
    ∷ at 0x1002 (zeros 2 ++ end) 0x1004 (gets Sound 0 0x1004)
    ∷ at 0xffff_ffc0 (to 0xffff_ffe0 ++ end) 0xffff_ffc0 (gets Sound 1 0xffff_ffe0)
    ∷ at 0xffff_ffc0 (to 0xffff_fff0 ++ end) 0xffff_ffc0 (gets Outside 1 0xffff_fff0)
    -- a window that breaks the limits
    ∷ at 0x1_0000_0000 end 0x1000 (Err BadWindow)
    ∷ at 0xffff_ffe4 end 0xffff_ffe4 (Err BadWindow)
    ∷ []

-- what is said of a row's chain
abbrev pub said : Row → Result Verdict Refusal
said r = verdict_in (checked_of r.base (length r.memory)) r.memory r.pointer

abbrev pub AsWanted : Type 0
AsWanted = map said rows ≡ map (λ (r : Row). r.wanted) rows
