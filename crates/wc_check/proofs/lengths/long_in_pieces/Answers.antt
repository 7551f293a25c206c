use Rattle.wc_check.specs.Sought.{long_in_piece}
use Rattle.wc_check.specs.Flat.{seen_piece}
use Rattle.wc_check.proofs.Leasts.{least_seen}
use Rattle.wc_check.proofs.lengths.long_in_pieces.Goals as goal

pub loop-piece-preserved : goal.loop-piece-preserved
loop-piece-preserved c = least_seen long_in_piece seen_piece _ _ _ c.args.pieces.now _ c.piece-item.result c.loop-piece.invariant c.long_in_piece.ensures c.loop-piece-test.true c.piece-item.is
