use Rattle.std.proofs.Common.{◌≡◌}
use Rattle.wc_drill.specs.Squares.{square_rows}
use Rattle.wc_drill.proofs.squares.square_rows.Given as goal

abbrev pub invariant-loop-number : goal.invariant-loop-number
invariant-loop-number l = l.rows ≡ square_rows l.number
