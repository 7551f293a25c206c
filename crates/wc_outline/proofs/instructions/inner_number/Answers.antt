use Rattle.std.proofs.Common.{◌≡◌, ℕ, suc, ◌+◌, List, length, ap, ◌∙◌, arith}
use Rattle.std.specs.Borrow.{Bor}
use Rattle.wc_syntax.specs.declared.outline.Instr.{Instr}
use Rattle.wc_machine.specs.Advances.{block_count}
use Rattle.wc_outline.proofs.Picked.{passed_in}
use Rattle.wc_outline.proofs.instructions.inner_number.Goals as goal

pub number_behind-requires : goal.number_behind-requires
number_behind-requires c =
    let passed : length c.as_slice.result.now ≡ block_count c.args.place.front.now
    = ap (length {A = Bor (List Instr)}) c.as_slice.ensures
    ∙ passed_in c.new-passed.result c.put_blocks.new.found c.args.place.front.now c.new-passed.ensures c.in_ok-put_blocks.ensures in
    omega (arith, passed, c.requires)

pub returns : goal.returns
returns c =
    c.number_behind.ensures
    ∙ ap (λ (m : ℕ). suc c.args.place.frame.block + m)
    (ap (length {A = Bor (List Instr)}) c.as_slice.ensures
    ∙ passed_in c.new-passed.result c.put_blocks.new.found c.args.place.front.now c.new-passed.ensures c.in_ok-put_blocks.ensures)
