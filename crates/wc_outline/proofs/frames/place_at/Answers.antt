use Rattle.std.proofs.Common.{◌<◌, List, length, sym, ap, ◌∙◌, arith}
use Rattle.wc_syntax.specs.declared.outline.Instr.{Instr}
use Rattle.std.specs.Prelude.{slice_get, take}
use Rattle.wc_outline.specs.Places.{behind}
use Rattle.wc_outline.proofs.Popped.{behind_at, get_at, stands}
use Rattle.wc_outline.proofs.frames.place_at.Goals as goal

pub returns-clause-place : goal.returns-clause-place
returns-clause-place c =
    let f = c.args.frame in
    let known = c.in_ok-instrs.ensures.lookup in
    let same = c.as_slice-instrs.ensures in
    let h : f.next < length c.as_slice-instrs.result.now = omega (arith, ap (length {A = Instr}) same, c.len.ensures.value, c.if-next-len.false) in
    stands (behind c.args.blocks.now) f c.in_ok-instrs.field-0.now.now (take f.next c.as_slice-instrs.result.now) c.args.outer.now c.index-instrs-next.result
    (behind_at c.args.blocks.now f.block c.in_ok-instrs.field-0.now known.3.0 known.1)
    (ap (λ (is : List Instr). slice_get is f.next) (sym same) ∙ get_at c.as_slice-instrs.result.now f.next c.index-instrs-next.result h c.index-instrs-next.is)
    (ap (take f.next) same)
