use Rattle.std.proofs.Common.{◌≡◌, drop}
use Rattle.std.specs.Prelude.{flat_map}
use Rattle.wc_syntax.specs.Findings.{undeclared, piece_status}
use Rattle.wc_check.specs.Flat.{seen_pieces}
use Rattle.wc_check.specs.Least.{least_after}
use Rattle.wc_check.proofs.rules.exits_of_pieces.Given as goal

abbrev pub invariant-loop-piece : goal.invariant-loop-piece
invariant-loop-piece l = least_after l.best (flat_map (λ p. flat_map (undeclared l.declared) (piece_status p)) (seen_pieces (drop l.piece-index l.pieces))) ≡ least_after l.fn.best (flat_map (λ p. flat_map (undeclared l.declared) (piece_status p)) (seen_pieces l.pieces))
