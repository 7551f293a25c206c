use Rattle.std.proofs.Common.{slice_index, ◌∙◌, arith}
use Rattle.std.proofs.lemmas.List.{length-set}
use Rattle.wc_verify.proofs.Leaping.{leap_at, next_leaping, within_set}
use Rattle.wc_verify.proofs.ends.leap.Goals as goal

pub loop-at-preserved : goal.loop-at-preserved
loop-at-preserved c =
    let t = c.loop-at.table in
    let at = c.loop-at.at in
    let i = c.loop-at.invariant in
    let to = slice_index t (slice_index t at) in
    record {
      size = length-set t at to ∙ i.size;
      within = within_set t at to (omega arith) (i.within (slice_index t at) (i.within at (omega arith))) i.within;
      far = λ first rank k f. let l = i.far first rank k f in next_leaping first rank k at t to (omega arith) l (leap_at first rank k at t (omega arith) i.within l);
    }
