use Rattle.std.proofs.Common.{◌≡◌, ◌≤◌, ◌*◌}
use Rattle.wc_value.specs.Draws.{after_draws}
use Rattle.wc_drill.specs.Draws.{sum_of_squares}
use Rattle.wc_drill.proofs.numbers.sum_of_squares.Given as goal

abbrev pub invariant-loop-chain : goal.invariant-loop-chain
invariant-loop-chain l = (l.sum ≡ sum_of_squares l._chain l.fn.seed) × (l.draws.x ≡ after_draws (2 * l._chain) l.fn.seed) × (l.sum ≤ 20000 * l._chain)
