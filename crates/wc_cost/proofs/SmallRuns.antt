-- The costs of small runs, by computation.
use Rattle.std.proofs.Common.{refl}
use Rattle.wc_cost.specs.SmallLaws.{SmallRunsCost}

pub small_runs_cost : SmallRunsCost
small_runs_cost t p q e s env outs = record { past_the_last = refl; ends = refl; no_calls = refl; two_calls = refl }
