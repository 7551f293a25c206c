use Rattle.std.proofs.Common.{◌∙◌, ◌∷◌, ◌++◌, [], ap, refl, map}
use Rattle.wc_syntax.specs.Mentions.{Begins, Named, Does}
use Rattle.wc_check.specs.Flat.{seen_pieces}
use Rattle.wc_check.proofs.Flats.{two}
use Rattle.wc_check.proofs.pieces.put_step.Goals as goal

pub returns : goal.returns
returns c =
    two _ _ _ (Begins c.args.step.now.at ∷ Named c.args.step.now.name ∷ []) (map Does c.args.step.now.stmts) _
    (two _ _ _ (Begins c.args.step.now.at ∷ []) (Named c.args.step.now.name ∷ []) _ c.in_ok-put_piece.ensures c.in_ok-put_piece-2.ensures refl)
    (c.in_ok-put_stmts.ensures ∙ ap (λ ss. seen_pieces c.put_piece-2.new.found.items ++ map Does ss) c.as_slice.ensures)
    refl
