-- Order 8: the answer of sgdma_check_chain read back, and the chain that it says sound run.
-- Assumes nothing.
use Prim.Native.Nat.{ℕ, ◌+◌, ◌^◌, ◌≤◌, ◌<◌}
use mathlib.Core.Path.{◌≡◌, refl, sym, ap, subst, subst⁻¹, ◌∙◌}
use mathlib.Core.Bool.{true, cond, ◌&&◌}
use mathlib.Core.List.{List, [], ◌∷◌}
use native.Mathlib.Omega.{arith}
use lib.Dec.{leb, eqb}
use lib.ListN.{get_or}
use borrow.Author.Tests.{leb-true}
use Rattle.words.specs.declared.Order.TheVariants.{MostFirst}
use Rattle.words.specs.Orders.{row_numbers}
use Rattle.words.proofs.Orders.{row_back}
use Rattle.bus.specs.declared.Window.{Window}
use Rattle.bus.specs.Window.{keeps_limits, in_window}
use Rattle.image.proofs.Tests.{and_right}
use Rattle.links.specs.declared.Stop.{Stop}
use Rattle.links.specs.declared.Verdict.{Verdict}
use Rattle.links.specs.declared.Kind.{Kind}
use Rattle.links.specs.declared.Kind.TheVariants.{Sound, Misaligned, Outside, Overlaps}
use Rattle.links.specs.Form.{links_from, link_after}
use Rattle.links.specs.Verdicts.{window_at, stop, verdict, verdict_of, position_of}
use Rattle.links.specs.Calls.{verdict_widths, stop_bytes, verdict_bytes}
use Rattle.links.proofs.Meaning.{sound-exactly, stops-at-most}
use Rattle.chain.proofs.Lists.{all_right}
use Rattle.chain.proofs.Memory.{placed}
use Rattle.chain_calls.specs.Theorems.{CheckedRuns}
use Rattle.chain_calls.proofs.OfDemand.{chain-of-calls}

-- ---- the answer, read back

-- its numbers fit their places
abbrev Small : Stop → Type 0
Small s = (s.position < 2 ^ 32) × (s.address < 2 ^ 32)

abbrev numbers : Stop → List ℕ
numbers s = 0 ∷ s.position ∷ s.address ∷ []

numbers-back : (s : Stop) → Small s → row_numbers MostFirst verdict_widths (stop_bytes 0 s) ≡ numbers s
numbers-back s h = row_back MostFirst verdict_widths (numbers s) (omega arith, (h.0, (h.1, tt)))

same_stop : (s t : Stop) → Small s → Small t → stop_bytes 0 s ≡ stop_bytes 0 t → s ≡ t
same_stop s t a b e =
    let same : numbers s ≡ numbers t = sym (numbers-back s a) ∙ ap (row_numbers MostFirst verdict_widths) e ∙ numbers-back t b in
    λ i. record { position = get_or (same i) 1 0; address = get_or (same i) 2 0 }

-- the second byte is the verdict's
told-sound : (kind : Kind) (s t : Stop) → (kind ≡ Sound → Small s) → Small t → verdict_bytes (verdict kind s) ≡ stop_bytes 0 t
    → verdict kind s ≡ verdict Sound t
told-sound Sound s t small h e = ap (verdict Sound) (same_stop s t (small refl) h e)
told-sound Misaligned s t small h e = absurd (let other : 1 ≡ 0 = ap (λ (xs : List ℕ). get_or xs 1 0) e in omega arith)
told-sound Outside s t small h e = absurd (let other : 2 ≡ 0 = ap (λ (xs : List ℕ). get_or xs 1 0) e in omega arith)
told-sound Overlaps s t small h e = absurd (let other : 3 ≡ 0 = ap (λ (xs : List ℕ). get_or xs 1 0) e in omega arith)

-- what is sound ends in the window
in-bits : (w : Window) (a : ℕ) → keeps_limits w.base w.length ≡ true → in_window w a 32 ≡ true → a < 2 ^ 32
unfolding keeps_limits
in-bits w a limits h =
    let p = placed w a 32 h in
    let end : w.base + w.length ≤ 4294967296 = leb-true _ _ (and_right (leb w.length 65536 && leb w.base 4294967295) _ limits) in
    omega (arith, p.address, p.fits)

module _ (w : Window) (memory : List ℕ) (pointer : ℕ) (limits : keeps_limits w.base w.length ≡ true) where
  small : (s : Stop) → verdict_of w memory pointer ≡ verdict Sound s → Small s
  small s says =
      let sound = (sound-exactly w memory pointer s.position s.address limits).0 says in
      let last : in_window w (link_after w memory pointer s.position).at 32 ≡ true =
      (all_right (λ l. in_window w l.at 32 ≡ true) (links_from w memory pointer s.position) _ sound.form.placed.inside).0 in
      let most : s.position ≤ 2048 = subst (λ (v : Verdict). position_of v ≤ 2048) says (stops-at-most w memory pointer limits) in
      (omega arith, subst⁻¹ (λ (a : ℕ). a < 2 ^ 32) sound.end_is (in-bits w _ limits last))

-- ---- and the run

pub checked-runs : CheckedRuns
checked-runs l created pointed started left k e answer answer' checked says k-bits e-bits called well lent besides enough =
    let w = l.window in
    let done : answer' ≡ verdict_bytes (verdict_of (window_at w.base l.lent.window) l.lent.window l.pointer) =
    checked.lent ∙ ap (λ (n : ℕ). cond (eqb n 0) (verdict_bytes (verdict_of (window_at w.base l.lent.window) l.lent.window l.pointer)) answer) (sym checked.answer) in
    let whole : window_at w.base l.lent.window ≡ w = λ i. record { base = w.base; length = lent i } in
    let bytes : verdict_bytes (verdict_of w l.lent.window l.pointer) ≡ stop_bytes 0 (stop k e) =
    ap (λ (x : Window). verdict_bytes (verdict_of x l.lent.window l.pointer)) (sym whole) ∙ sym done ∙ says in
    let found = verdict_of w l.lent.window l.pointer in
    let is_sound : found ≡ verdict Sound (stop k e) =
    told-sound found.kind found.stop (stop k e)
    (λ f. small w l.lent.window l.pointer well.limits found.stop (ap (λ (x : Kind). verdict x found.stop) f)) (k-bits, e-bits) bytes in
    let sound = (sound-exactly w l.lent.window l.pointer k e well.limits).0 is_sound in
    (chain-of-calls l created pointed started left k called well (besides sound.form) enough, sym sound.end_is)
