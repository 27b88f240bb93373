use Rattle.std.specs.Prelude.{Ok, Option}
use Prim.Native.Nat.{ℕ, ◌+◌, ◌*◌, ◌^◌, ◌<◌}
use mathlib.Core.Path.{◌≡◌, sym, ap, ◌∙◌}
use mathlib.Core.List.{List}
use native.Mathlib.Omega.{arith}
use Rattle.words.specs.declared.Order.TheVariants.{MostFirst}
use Rattle.words.specs.Orders.{bytes_of}
use Rattle.words.specs.Slices.{put_at}
use Rattle.links.specs.declared.mending.Change.{Change}
use Rattle.links.specs.Calls.{change_bytes, mended_bytes}
use Rattle.links.proofs.Telling.{change-filled}
use Rattle.links.proofs.calls.put_change.Goals as goal
use Rattle.links.proofs.calls.put_change.Goals.{in-None, in-Some, Joined-mended}

-- what is told, by whether a byte was changed
told : (c : Joined-mended) → let t = c.match-mended.told in (change_bytes t.0 t.1 ≡ mended_bytes (Ok c.args.mended)) × (t.1.after < 2 ^ 8)
told c = elim c.match-mended.branch [
  | in-None w ↦ (
    ap (λ (t : ℕ × Change). change_bytes t.0 t.1) w.told-is ∙ ap (λ (m : Option Change). mended_bytes (Ok m)) (sym w.in-None.is),
    rw w.told-is (omega arith),
  )
  | in-Some w ↦ (
    ap (λ (t : ℕ × Change). change_bytes t.0 t.1) w.told-is ∙ ap (λ (m : Option Change). mended_bytes (Ok m)) (sym w.in-Some.is),
    rw w.told-is (omega arith),
  )
]

pub returns : goal.returns
returns c =
    let t = c.match-mended.told in
    let by = told (goal.at.returns c).Joined-mended in
    record {
      lent = c.put_u16-2.ensures.lent
          ∙ ap (λ (l : List ℕ). put_at l 6 (bytes_of MostFirst 2 (t.1.before * 256 + t.1.after)))
          (c.put_u32.ensures.lent ∙ ap (λ (l : List ℕ). put_at l 2 (bytes_of MostFirst 4 t.1.address)) c.put_u16.ensures.lent)
          ∙ change-filled c.args.answer.now t.0 t.1 c.requires by.1 ∙ by.0;
    }
