use Rattle.std.proofs.Common.{List, ◌++◌, ◌∷◌, [], ◌∙◌, ap, sym}
use Rattle.std.specs.Prelude.{flat_map}
use Rattle.wc_syntax.specs.declared.outline.Arm.{Arm, out-Arm}
use Rattle.wc_syntax.specs.declared.outline.Instr.{Instr}
use Rattle.wc_syntax.specs.declared.outline.Instr.TheVariants as instr
use Rattle.wc_machine.specs.Outlines.{blocks, blocks_in}
use Rattle.wc_turn_laws.proofs.Numbering.{blocks_are}
use Rattle.wc_outline.specs.Places.{behind, arm_blocks}
use Rattle.wc_outline.proofs.Gathered.{map_put, flat_turn, flat_whole, two, on_ok}
use Rattle.wc_outline.proofs.Opened.{blocks_some, blocks_none}
use Rattle.wc_outline.proofs.blocks.+blocks.Goals as goal

pub put_block-returns : goal.put_block-returns
put_block-returns t c =
    on_ok c.put_blocks.result
    (λ h. two (behind c.args.found.now) (behind c.push.new.self) _ (c.args.block.now.instrs ∷ []) (flat_map blocks_in c.args.block.now.instrs) (blocks c.args.block.now)
    (map_put (λ r. r.now) _ _ _ c.in_ok-push.ensures.ok)
    (h ∙ ap (λ (is : List Instr). behind c.push.new.self ++ flat_map blocks_in is) c.as_slice.ensures) (blocks_are c.args.block.now))
    c.put_blocks.ensures

pub put_blocks-loop-instr-preserved : goal.put_blocks-loop-instr-preserved
put_blocks-loop-instr-preserved t c =
    flat_turn blocks_in _ _ _ _ _ c.instr-item.result c.loop-instr.invariant c.in_ok-put_blocks_in.ensures c.loop-instr-test.true c.instr-item.is

pub put_blocks-returns : goal.put_blocks-returns
put_blocks-returns t c = flat_whole blocks_in _ _ _ _ c.loop-instr.invariant c.loop-instr-test.false

pub put_blocks_in-returns-in-Some : goal.put_blocks_in-returns-in-Some
put_blocks_in-returns-in-Some t c =
    on_ok c.put_block.result
    (λ h. two _ _ _ (arm_blocks c.in-If.arms) (blocks c.in-Some.block) _ c.in_ok-put_arms-in-If.ensures h
    (blocks_some _ c.in-If.field-0 _ _ (c.in-If.is ∙ ap (instr.If c.in-If.field-0 c.in-If.arms) c.in-Some.is)))
    c.put_block.ensures

pub put_blocks_in-returns-in-None : goal.put_blocks_in-returns-in-None
put_blocks_in-returns-in-None t c =
    c.in_ok-put_arms-in-If.ensures
    ∙ ap (λ bs. behind c.args.found.now ++ bs) (sym (blocks_none _ c.in-If.field-0 _ (c.in-If.is ∙ ap (instr.If c.in-If.field-0 c.in-If.arms) c.in-None.is)))

pub put_arms-loop-arm-preserved : goal.put_arms-loop-arm-preserved
put_arms-loop-arm-preserved t c =
    flat_turn (λ (a : Arm). blocks (out-Arm a).block) _ _ _ _ _ c.arm-item.result c.loop-arm.invariant c.in_ok-put_block.ensures c.loop-arm-test.true c.arm-item.is
