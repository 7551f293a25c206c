-- What one generated chain costs.
use Rattle.wc_semantics.specs.Tables.{no_kills, row_of}
use Rattle.wc_ends.specs.Costs.Cost.{Prices}
use Rattle.wc_ends.specs.Costs.Left.{by_request}
use Rattle.wc_drill.specs.Library.{chain_inputs, chain_name, library}
use Rattle.wc_drill.specs.Squares.{square_rows}

-- The chain with the numbers 2 and 3 takes 17 turns: 6 of its own, 5 for each of its two jobs, and 1 for its function.
abbrev pub PairCosts : Type 0
PairCosts = Prices 15 library (by_request (λ q. row_of q (square_rows 100))) no_kills chain_name (chain_inputs 2 3) 17
