use Rattle.std.proofs.Common.{◌≡◌, drop}
use Rattle.std.specs.Prelude.{flat_map}
use Rattle.wc_syntax.specs.Findings.{piece_mentions}
use Rattle.wc_check.specs.Flat.{seen_pieces}
use Rattle.wc_check.specs.Least.{least_after}
use Rattle.wc_check.specs.Sought.{found_at}
use Rattle.wc_check.proofs.mentions.find_in_pieces.Given as goal

abbrev pub invariant-loop-piece : goal.invariant-loop-piece
invariant-loop-piece l = least_after l.best (flat_map (λ p. flat_map (found_at l.search) (piece_mentions p)) (seen_pieces (drop l.piece-index l.pieces))) ≡ least_after l.fn.best (flat_map (λ p. flat_map (found_at l.search) (piece_mentions p)) (seen_pieces l.pieces))
