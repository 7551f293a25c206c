use Rattle.std.proofs.Common.{◌<◌, refl, ◌∙◌, arith}
use Rattle.std.proofs.lemmas.Nat.{one_shl}
use Rattle.wc_matches.proofs.Masked.{own_next}
use Rattle.wc_matches.proofs.masks.put_own.Goals as goal

pub loop-place-preserved : goal.loop-place-preserved
loop-place-preserved c =
    let l = c.loop-place in
    let few : l.place < 64 = omega (arith, c.loop-place-test.true, c.requires.few) in
    record {
      size = c.put_bits-new.ensures.size ∙ l.invariant.size;
      own = own_next c.args.ends.now l.own c.put_bits-new.new.masks l.place _ _ l.invariant.own refl (one_shl l.place 64 few) c.put_bits-new.ensures.here c.put_bits-new.ensures.others;
    }
