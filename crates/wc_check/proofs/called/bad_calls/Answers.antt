use Rattle.wc_check.specs.Sought.{calls_at}
use Rattle.wc_check.specs.Flat.{seen_piece}
use Rattle.wc_check.proofs.Leasts.{least_seen}
use Rattle.wc_check.proofs.called.bad_calls.Goals as goal

pub loop-piece-preserved : goal.loop-piece-preserved
loop-piece-preserved c = least_seen (calls_at c.args.signatures.now) seen_piece _ _ _ c.args.pieces.now _ c.piece-item.result c.loop-piece.invariant c.in_ok-call_of_piece.ensures c.loop-piece-test.true c.piece-item.is
