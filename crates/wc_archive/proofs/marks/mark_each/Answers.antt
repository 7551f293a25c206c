use Rattle.std.proofs.Common.{ℕ, ◌<◌, ◌==◌, length, get_or, refl, ◌∙◌, arith}
use Rattle.wc_archive.specs.Marks.{is_marked}
use Rattle.wc_archive.proofs.Marking.{id_more, ids_all, none_yet, same_size}
use Rattle.wc_archive.proofs.marks.mark_each.Goals as goal

pub mark-requires : goal.mark-requires
mark-requires c =
    let ids = c.args.ids.now in
    let i = c.loop-id.id-index in
    let low : get_or ids i 0 < length c.args.marks.now.items = c.requires i 0 c.loop-id-test.true in
    let size = c.loop-id.invariant.size in
    omega (arith, low, size)

pub loop-id-init : goal.loop-id-init
loop-id-init c = record { size = refl; marks = λ n. none_yet (λ (k : ℕ). k == n) c.args.ids.now (is_marked c.args.marks.now.items n) }

pub loop-id-preserved : goal.loop-id-preserved
loop-id-preserved c =
    let ids = c.args.ids.now in
    let i = c.loop-id.id-index in
    let low : get_or ids i 0 < length c.args.marks.now.items = c.requires i 0 c.loop-id-test.true in
    let size = c.loop-id.invariant.size in
    record {
      size = same_size c.loop-id.marks.items c.mark.new.marks.items (get_or ids i 0) c.mark.ensures ∙ size;
      marks = id_more c.args.marks.now.items c.loop-id.marks.items c.mark.new.marks.items ids i 0 (get_or ids i 0) c.loop-id-test.true refl (omega (arith, low, size))
          c.mark.ensures c.loop-id.invariant.marks;
    }

pub returns-clause-marks : goal.returns-clause-marks
returns-clause-marks c = ids_all c.args.marks.now.items c.loop-id.marks.items c.args.ids.now c.loop-id.id-index c.loop-id-test.false c.loop-id.invariant.marks
