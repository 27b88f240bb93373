use Rattle.std.proofs.Common.{ap, ◌∙◌, rules}
use Rattle.words.specs.declared.packer.Packer.{Packer}
use Rattle.words.specs.Packed.{packed_over}
use Rattle.words.proofs.Packing.{more, more_flag}
use Rattle.timer.specs.Saved.{Typed}
use Rattle.timer.proofs.InBytes.{timer-packed}
use Rattle.timer.proofs.Timer.pack.Goals as goal
use Rattle.timer.proofs.Timer.pack.Goals.{Start}

typed : (c : Start) → Typed c.args.self
typed c = search rules

pub returns : goal.returns
returns c = let put0 = c.new.ensures.value in
    let put1 = more _ _ c.put.ensures put0 in
    let put2 = more _ _ c.put-2.ensures put1 in
    let put3 = more _ _ c.put-3.ensures put2 in
    let put4 = more _ _ c.put-4.ensures put3 in
    let put5 = more_flag _ _ c.put-5.ensures put4 in
    let put6 = more_flag _ _ c.put-6.ensures put5 in
    let put7 = more_flag _ _ c.put-7.ensures put6 in
    let put8 = more_flag _ _ c.put-8.ensures put7 in
    record {
      lent = c.write.ensures.lent ∙ ap (λ (p : Packer). packed_over p c.args.to.now) put8
          ∙ timer-packed c.args.self c.args.to.now c.requires (typed (goal.at.returns c).Start);
    }
