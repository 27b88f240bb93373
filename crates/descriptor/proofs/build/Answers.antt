use Rattle.descriptor.proofs.Writing.{build-done}
use Rattle.descriptor.proofs.Seats.{seat-is}
use Rattle.descriptor.specs.Layout.{bytes_for}
use Rattle.words.specs.Slices.{put_at}
use mathlib.Core.Path.{sym, ap, ◌∙◌}
use Prim.Native.Nat.{ℕ}
use Rattle.descriptor.proofs.build.Goals as goal

pub returns : goal.returns
returns c = let a = c.args in
    let e = sym c.seat_of.ensures ∙ c.in_ok-place.was in
    build-done a.window.now a.base a.address.0 a.job _ e (seat-is _ _ _ a.base e).1 _
    (c.put.ensures.lent ∙ ap (λ (n : ℕ). put_at a.window.now n (bytes_for a.job)) c.index.ensures.value)
