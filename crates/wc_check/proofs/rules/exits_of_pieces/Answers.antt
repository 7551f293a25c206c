use Rattle.std.specs.Prelude.{flat_map}
use Rattle.wc_check.specs.Flat.{seen_piece}
use Rattle.wc_syntax.specs.Findings.{undeclared, piece_status}
use Rattle.wc_check.proofs.Leasts.{least_seen}
use Rattle.wc_check.proofs.rules.exits_of_pieces.Goals as goal

pub loop-piece-preserved : goal.loop-piece-preserved
loop-piece-preserved c = least_seen (λ p. flat_map (undeclared c.args.declared.now) (piece_status p)) seen_piece _ _ _ c.args.pieces.now _ c.piece-item.result c.loop-piece.invariant c.exit_of_piece.ensures c.loop-piece-test.true c.piece-item.is
