use Rattle.std.proofs.Common.{◌≡◌, ◌++◌, take}
use Rattle.std.specs.Prelude.{flat_map}
use Rattle.wc_check.specs.Flat.{seen_pieces}
use Rattle.wc_syntax.specs.Findings.{piece_places}
use Rattle.wc_check.proofs.places.put_piece_places.Given as goal

abbrev pub invariant-loop-piece : goal.invariant-loop-piece
invariant-loop-piece l = l.found.items ≡ l.fn.found.items ++ flat_map piece_places (seen_pieces (take l.piece-index l.pieces))
