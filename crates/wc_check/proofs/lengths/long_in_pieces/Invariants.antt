use Rattle.std.proofs.Common.{◌≡◌, drop}
use Rattle.std.specs.Prelude.{flat_map}
use Rattle.wc_check.specs.Flat.{seen_pieces}
use Rattle.wc_check.specs.Least.{least_after}
use Rattle.wc_check.specs.Sought.{long_in_piece}
use Rattle.wc_check.proofs.lengths.long_in_pieces.Given as goal

abbrev pub invariant-loop-piece : goal.invariant-loop-piece
invariant-loop-piece l = least_after l.best (flat_map long_in_piece (seen_pieces (drop l.piece-index l.pieces))) ≡ least_after l.fn.best (flat_map long_in_piece (seen_pieces l.pieces))
