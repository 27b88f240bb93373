-- Descriptors are written as well as read, and one comes back as the other.
-- Assumes nothing.
use Rattle.std.specs.Prelude.{Result, Ok, Err}
use Prim.Native.Nat.{ℕ, ◌+◌, ◌-◌, ◌≤◌}
use mathlib.Core.Path.{◌≡◌, refl, sym, ap, subst, ◌∙◌}
use mathlib.Core.List.{List, [], ◌∷◌}
use native.Mathlib.Omega.{arith}
use lib.ListN.{length, drop, length-drop}
use lib.Seq.{length-take-le}
use Rattle.words.specs.declared.Order.TheVariants.{LeastFirst}
use Rattle.words.specs.Orders.{number_of, row_bytes}
use Rattle.words.specs.Slices.{part, put, AllBytes}
use Rattle.words.proofs.Bytes.{take-bytes, drop-bytes}
use Rattle.words.proofs.Orders.{row_back, row-there}
use Rattle.words.proofs.Slices.{length-put, part-put, put-part, row_from}
use Rattle.bus.specs.declared.Place.{Place}
use Rattle.bus.specs.declared.Refusal.{Refusal}
use Rattle.descriptor.specs.declared.Job.{Job}
use Rattle.descriptor.specs.declared.Descriptor.{Descriptor}
use Rattle.descriptor.specs.Layout.{widths, named, bytes_for, descriptor_of, descriptor_at}
use Rattle.descriptor.specs.Calls.{seat_of, found, built, with_job}
use Rattle.descriptor.specs.RoundTrip.{Typed, as_built, job_of, OthersZero}
use Rattle.descriptor.specs.Theorems.{ReadAfterBuild, BuildAfterRead}
use Rattle.descriptor.proofs.Seats.{seat-is}
use Rattle.descriptor.proofs.Reading.{there}
use Rattle.descriptor.proofs.Writing.{length-job}

-- the fields of a job's bytes are its own
fields_back : (j : Job) → Typed j → descriptor_of (bytes_for j) ≡ as_built j
unfolding bytes_for
fields_back j t =
    ap named
    (row_back LeastFirst widths (j.source ∷ 0 ∷ j.destination ∷ 0 ∷ j.next ∷ 0 ∷ j.length ∷ 0 ∷ 0 ∷ 0 ∷ j.control.0 ∷ [])
    (t.source, (omega arith, (t.destination, (omega arith, (t.next, (omega arith, (t.length, (omega arith, (omega arith, (omega arith, (t.control, tt))))))))))))

-- a call that was done had a seat
done_at : (s : Result Place Refusal) → (Ok tt) ≡ built s → (p : Place) × (s ≡ Ok p)
done_at (Ok p) e = (p, refl)
done_at (Err why) e = absurd (let z : ◌≡◌ {A = ℕ} 0 1 = cc in omega arith)

-- Read after build gives the same fields.
pub read-after-build : ReadAfterBuild
read-after-build xs ys base a j r t b w =
    let at = done_at (seat_of (length xs) base a) b.answer in
    let p = at.0 in
    let fits : p.0 + 32 ≤ length xs = (seat-is a p (length xs) base at.1).1 in
    let after : ys ≡ put xs p.0 (bytes_for j) = b.lent ∙ ap (with_job xs j) at.1 in
    let same : length ys ≡ length xs = ap length after ∙ length-put xs p.0 (bytes_for j) (omega (arith, length-job j)) in
    let stands : part ys p.0 32 ≡ bytes_for j =
    ap (λ (l : List ℕ). part l p.0 32) after ∙ part-put xs p.0 (bytes_for j) 32 (omega (arith, length-job j)) (length-job j) in
    w.answer ∙ ap (λ (n : ℕ). found ys (seat_of n base a)) same ∙ ap (found ys) at.1
    ∙ ap Ok (there ys p.0 (omega arith) ∙ ap descriptor_of stands ∙ fields_back j t)

-- the bytes of a job have zeros in the others' places
job-zero : (j : Job) → OthersZero (bytes_for j)
unfolding bytes_for
job-zero j =
    record { reserved_4 = refl; reserved_12 = refl; reserved_20 = refl; reserved_26 = refl; actual = refl; status = refl }

all-numbers : {n0 n1 n2 n3 n4 n5 n6 n7 n8 n9 n10 : ℕ} → n1 ≡ 0 → n3 ≡ 0 → n5 ≡ 0 → n7 ≡ 0 → n8 ≡ 0 → n9 ≡ 0
    → n0 ∷ 0 ∷ n2 ∷ 0 ∷ n4 ∷ 0 ∷ n6 ∷ 0 ∷ 0 ∷ 0 ∷ n10 ∷ [] ≡ n0 ∷ n1 ∷ n2 ∷ n3 ∷ n4 ∷ n5 ∷ n6 ∷ n7 ∷ n8 ∷ n9 ∷ n10 ∷ []
all-numbers e1 e3 e5 e7 e8 e9 = cc

-- 32 bytes with zeros there come back from the fields that they are read as
bytes_back : (ys : List ℕ) → length ys ≡ 32 → AllBytes ys → OthersZero ys → bytes_for (job_of (descriptor_of ys)) ≡ ys
unfolding bytes_for
bytes_back ys l g z =
    let n = number_of LeastFirst in
    let row = row_from LeastFirst 0 widths ys in
    ap (λ (ns : List ℕ). bytes_for (job_of (named ns))) row
    ∙ ap (row_bytes LeastFirst widths)
    (all-numbers (ap n z.reserved_4) (ap n z.reserved_12) (ap n z.reserved_20) (ap n z.reserved_26) (ap n z.actual) (ap n z.status) ∙ sym row)
    ∙ row-there LeastFirst widths ys l g

good-is : (xs : List ℕ) (d : Descriptor) (s : Result Place Refusal) (p : Place) → s ≡ Ok p → Ok d ≡ found xs s → d ≡ descriptor_at xs p.0
good-is xs d s p e f = let same : Ok d ≡ Ok (descriptor_at xs p.0) = f ∙ ap (found xs) e in cc

-- Build after read gives the same bytes exactly when reserved, actual and status bytes were zero.
pub build-after-read : BuildAfterRead
build-after-read xs ys base a d g w b =
    let at = done_at (seat_of (length xs) base a) b.answer in
    let p = at.0 in
    let is = seat-is a p (length xs) base at.1 in
    let fits : p.0 + 32 ≤ length xs = is.1 in
    let after : ys ≡ put xs p.0 (bytes_for (job_of d)) = b.lent ∙ ap (with_job xs (job_of d)) at.1 in
    let stands : part ys p.0 32 ≡ bytes_for (job_of d) =
    ap (λ (l : List ℕ). part l p.0 32) after
    ∙ part-put xs p.0 (bytes_for (job_of d)) 32 (omega (arith, length-job (job_of d))) (length-job (job_of d)) in
    let was : d ≡ descriptor_of (part xs p.0 32) = good-is xs d (seat_of (length xs) base a) p at.1 w.answer ∙ there xs p.0 fits in
    let here : part xs p.0 32 ≡ part xs (a - base) 32 = ap (λ (n : ℕ). part xs n 32) is.0 in
    let size : length (part xs p.0 32) ≡ 32 = length-take-le 32 (drop p.0 xs) (simp length-drop (omega arith)) in (
      λ e. subst OthersZero (sym stands ∙ ap (λ (l : List ℕ). part l p.0 32) e ∙ here) (job-zero (job_of d)),
      λ z. after
          ∙ ap (put xs p.0)
          (ap (λ (x : Descriptor). bytes_for (job_of x)) was
          ∙ bytes_back (part xs p.0 32) size (take-bytes 32 (drop p.0 xs) (drop-bytes p.0 xs g)) (subst OthersZero (sym here) z))
          ∙ put-part xs p.0 32 fits,
    )
