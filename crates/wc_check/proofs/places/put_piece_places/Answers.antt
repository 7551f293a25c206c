use Rattle.std.proofs.Common.{sym, append-nil}
use Rattle.std.specs.Prelude.{flat_map}
use Rattle.wc_check.specs.Flat.{seen_piece, seen_pieces}
use Rattle.wc_syntax.specs.Findings.{piece_places}
use Rattle.wc_check.proofs.Gathered.{seen_turn, whole}
use Rattle.wc_check.proofs.places.put_piece_places.Goals as goal

pub loop-piece-init : goal.loop-piece-init
loop-piece-init c = sym (append-nil c.args.found.now.items)

pub loop-piece-preserved : goal.loop-piece-preserved
loop-piece-preserved c = seen_turn piece_places seen_piece _ _ _ c.args.pieces.now c.loop-piece.piece-index c.piece-item.result c.loop-piece.invariant c.in_ok-put_piece_place.ensures c.loop-piece-test.true c.piece-item.is

pub returns : goal.returns
returns c = whole (λ xs. flat_map piece_places (seen_pieces xs)) _ _ c.args.pieces.now c.loop-piece.piece-index c.loop-piece.invariant c.loop-piece-test.false
