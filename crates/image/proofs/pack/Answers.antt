use Rattle.image.proofs.RoundTrip.{image-put}
use lib.Seq.{length-take-le}
use lib.ListN.{take}
use mathlib.Core.Path.{sym, ap, ◌∙◌}
use Rattle.words.specs.declared.packer.Packer.{Packer}
use Rattle.words.specs.Packed.{packed_over}
use Rattle.words.proofs.Packing.{more, more_flag}
use native.Mathlib.Omega.{arith}
use Rattle.image.proofs.pack.Goals as goal

pub slice_bounds-write-end-2 : goal.slice_bounds-write-end-2
slice_bounds-write-end-2 c = let l = c.requires.to_len in
    sym (length-take-le 49 c.args.to.now (omega arith))

pub returns : goal.returns
returns c = let put0 = c.new.ensures.value in
    let put1 = more _ _ c.put.ensures put0 in
    let put2 = more _ _ c.put-2.ensures put1 in
    let put3 = more _ _ c.put-3.ensures put2 in
    let put4 = more_flag _ _ c.put-4.ensures put3 in
    let put5 = more_flag _ _ c.put-5.ensures put4 in
    let put6 = more _ _ c.put-6.ensures put5 in
    let put7 = more _ _ c.put-7.ensures put6 in
    let put8 = more _ _ c.put-8.ensures put7 in
    let put9 = more _ _ c.put-9.ensures put8 in
    let put10 = more _ _ c.put-10.ensures put9 in
    let put11 = more _ _ c.put-11.ensures put10 in
    let put12 = more _ _ c.put-12.ensures put11 in
    let put13 = more _ _ c.put-13.ensures put12 in
    let put14 = more _ _ c.put-14.ensures put13 in
    let put15 = more _ _ c.put-15.ensures put14 in
    let put16 = more _ _ c.put-16.ensures put15 in
    let put17 = more _ _ c.put-17.ensures put16 in
    let put18 = more _ _ c.put-18.ensures put17 in
    let put19 = more _ _ c.put-19.ensures put18 in
    let put20 = more_flag _ _ c.put-20.ensures put19 in
    let put21 = more _ _ c.put-21.ensures put20 in
    let put22 = more _ _ c.put-22.ensures put21 in
    let put23 = more _ _ c.put-23.ensures put22 in
    let put24 = more _ _ c.put-24.ensures put23 in
    let put25 = more _ _ c.put-25.ensures put24 in
    record {
      lent = image-put c.args.f c.args.t c.args.to.now c.requires.to_len c.requires.fit
          (c.write.ensures.lent ∙ ap (λ (p : Packer). packed_over p (take 49 c.args.to.now)) put25)
          c.put-26.ensures.lent
          c.put_u32.ensures.lent;
    }
