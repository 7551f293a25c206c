use Rattle.std.proofs.Common.{◌∷◌, ◌++◌, ◌∙◌, ap, sym, append_assoc, length}
use Rattle.std.specs.Prelude.{flat_map}
use Rattle.std.proofs.lemmas.List.{take_all}
use Rattle.wc_syntax.specs.declared.outline.Instr.TheVariants as instr
use Rattle.wc_fits.specs.Blocks.{block_lengths}
use Rattle.wc_fits.specs.Levels.{lengths_in_instr, lengths_in_arm}
use Rattle.wc_fits.proofs.Lengths.{lengths_block, lengths_none, lengths_some}
use Rattle.wc_fits.proofs.blocks.+lengths.Goals as goal

pub put_block-returns : goal.put_block-returns
put_block-returns t c =
    c.loop-instr.invariant
    ∙ ap (λ is. c.args.found.now.items ++ (length c.args.block.now.instrs ∷ flat_map lengths_in_instr is))
    (take_all _ _ c.loop-instr-test.false ∙ c.as_slice-instr-items.ensures)
    ∙ ap (λ ls. c.args.found.now.items ++ ls) (sym (lengths_block c.args.block.now))

pub put_instr-returns-in_ok-put_block-in-Some : goal.put_instr-returns-in_ok-put_block-in-Some
put_instr-returns-in_ok-put_block-in-Some t c =
    let found = c.args.found.now.items in
    c.in_ok-put_block-in-Some.ensures
    ∙ ap (λ ls. ls ++ block_lengths c.in-Some.block) c.in_ok-put_arms-in-If.ensures
    ∙ append_assoc found (flat_map lengths_in_arm c.in-If.arms) (block_lengths c.in-Some.block)
    ∙ ap (λ ls. found ++ ls) (sym (lengths_some _ _ _ _ (c.in-If.is ∙ ap (instr.If c.in-If.field-0 c.in-If.arms) c.in-Some.is)))

pub put_instr-returns-in-None : goal.put_instr-returns-in-None
put_instr-returns-in-None t c =
    c.in_ok-put_arms-in-If.ensures
    ∙ ap (λ ls. c.args.found.now.items ++ ls) (sym (lengths_none _ _ _ (c.in-If.is ∙ ap (instr.If c.in-If.field-0 c.in-If.arms) c.in-None.is)))
