use Rattle.std.proofs.Common.{◌++◌, ◌∷◌, [], ◌∙◌, ap, sym, refl}
use Rattle.std.specs.Prelude.{flat_map}
use Rattle.std.proofs.lemmas.List.{take_all}
use Rattle.wc_syntax.specs.declared.outline.Instr.TheVariants as instr
use Rattle.wc_syntax.specs.Mentions.{Begins, Tests, Returns, pieces}
use Rattle.wc_check.specs.Flat.{seen_pieces, pieces_of_instr, pieces_of_arm}
use Rattle.wc_check.proofs.Gathered.{flat_turn}
use Rattle.wc_check.proofs.Flats.{pieces_block, pieces_arm, pieces_none, pieces_some, pieces_while, pieces_return, pieces_status, two}
use Rattle.wc_check.proofs.pieces.+pieces.Goals as goal

pub put_block-loop-instr-preserved : goal.put_block-loop-instr-preserved
put_block-loop-instr-preserved t c = flat_turn pieces_of_instr _ _ _ _ _ c.instr-item.result c.loop-instr.invariant c.in_ok-put_instr.ensures c.loop-instr-test.true c.instr-item.is

pub put_arms-loop-arm-preserved : goal.put_arms-loop-arm-preserved
put_arms-loop-arm-preserved t c =
    flat_turn pieces_of_arm _ _ _ _ _ c.arm-item.result c.loop-arm.invariant
    (two _ _ _ (Tests c.arm-item.result.condition ∷ []) (pieces c.arm-item.result.block) _ c.in_ok-put_piece.ensures c.in_ok-put_block.ensures (pieces_arm c.arm-item.result))
    c.loop-arm-test.true c.arm-item.is

pub put_block-returns : goal.put_block-returns
put_block-returns t c =
    c.loop-instr.invariant
    ∙ ap (λ is. seen_pieces c.args.found.now.items ++ flat_map pieces_of_instr is) (take_all _ _ c.loop-instr-test.false ∙ c.as_slice-instr-items.ensures)
    ∙ ap (λ ps. seen_pieces c.args.found.now.items ++ ps) (sym (pieces_block c.args.block.now))

pub put_instr-returns-in_ok-put_piece-in-Some-status : goal.put_instr-returns-in_ok-put_piece-in-Some-status
put_instr-returns-in_ok-put_piece-in-Some-status t c =
    two _ _ _ (Begins c.in-Return.at ∷ []) (Returns c.in-Some-status.status ∷ []) _
    c.in_ok-put_piece-in-Return.ensures c.in_ok-put_piece-in-Some-status.ensures
    (pieces_status _ _ _ (c.in-Return.is ∙ ap (instr.Return c.in-Return.at) c.in-Some-status.is))

pub put_instr-returns-in-None-status : goal.put_instr-returns-in-None-status
put_instr-returns-in-None-status t c =
    c.in_ok-put_piece-in-Return.ensures
    ∙ ap (λ ps. seen_pieces c.args.found.now.items ++ ps) (sym (pieces_return _ _ (c.in-Return.is ∙ ap (instr.Return c.in-Return.at) c.in-None-status.is)))

pub put_instr-returns-in_ok-put_block-in-While : goal.put_instr-returns-in_ok-put_block-in-While
put_instr-returns-in_ok-put_block-in-While t c =
    two _ _ _ (Begins c.in-While.at ∷ Tests c.in-While.condition ∷ []) (pieces c.in-While.block) _
    (two _ _ _ (Begins c.in-While.at ∷ []) (Tests c.in-While.condition ∷ []) _ c.in_ok-put_piece-in-While.ensures c.in_ok-put_piece-in-While-2.ensures refl)
    c.in_ok-put_block-in-While.ensures
    (pieces_while _ _ _ _ c.in-While.is)

pub put_instr-returns-in-None : goal.put_instr-returns-in-None
put_instr-returns-in-None t c =
    two _ _ _ (Begins c.in-If.at ∷ []) (flat_map pieces_of_arm c.in-If.arms) _
    c.in_ok-put_piece-in-If.ensures c.in_ok-put_arms-in-If.ensures
    (pieces_none _ _ _ (c.in-If.is ∙ ap (instr.If c.in-If.at c.in-If.arms) c.in-None.is))

pub put_instr-returns-in_ok-put_block-in-Some : goal.put_instr-returns-in_ok-put_block-in-Some
put_instr-returns-in_ok-put_block-in-Some t c =
    two _ _ _ (Begins c.in-If.at ∷ flat_map pieces_of_arm c.in-If.arms) (pieces c.in-Some.block) _
    (two _ _ _ (Begins c.in-If.at ∷ []) (flat_map pieces_of_arm c.in-If.arms) _ c.in_ok-put_piece-in-If.ensures c.in_ok-put_arms-in-If.ensures refl)
    c.in_ok-put_block-in-Some.ensures
    (pieces_some _ _ _ _ (c.in-If.is ∙ ap (instr.If c.in-If.at c.in-If.arms) c.in-Some.is))
