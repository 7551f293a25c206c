use Rattle.std.proofs.Common.{◌≡◌, drop}
use Rattle.std.specs.Prelude.{flat_map}
use Rattle.wc_check.specs.Flat.{seen_pieces}
use Rattle.wc_check.specs.Least.{least_after}
use Rattle.wc_check.specs.Sought.{calls_at}
use Rattle.wc_check.proofs.called.bad_calls.Given as goal

abbrev pub invariant-loop-piece : goal.invariant-loop-piece
invariant-loop-piece l = least_after l.best (flat_map (calls_at l.signatures) (seen_pieces (drop l.piece-index l.pieces))) ≡ least_after l.fn.best (flat_map (calls_at l.signatures) (seen_pieces l.pieces))
