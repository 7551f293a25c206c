use Rattle.std.specs.Prelude.{flat_map}
use Rattle.wc_check.specs.Sought.{found_at}
use Rattle.wc_check.specs.Flat.{seen_piece}
use Rattle.wc_syntax.specs.Findings.{piece_mentions}
use Rattle.wc_check.proofs.Leasts.{least_seen}
use Rattle.wc_check.proofs.mentions.find_in_pieces.Goals as goal

pub loop-piece-preserved : goal.loop-piece-preserved
loop-piece-preserved c = least_seen (λ p. flat_map (found_at c.args.search.now) (piece_mentions p)) seen_piece _ _ _ c.args.pieces.now _ c.piece-item.result c.loop-piece.invariant c.find_in_piece.ensures c.loop-piece-test.true c.piece-item.is
