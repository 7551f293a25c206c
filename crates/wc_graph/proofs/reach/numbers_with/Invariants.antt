use Rattle.std.proofs.Common.{◌≡◌, ◌<◌, slice_index}
use Rattle.wc_graph.specs.Reached.{AreExactly}
use Rattle.wc_graph.proofs.reach.numbers_with.Given as goal

abbrev pub invariant-loop-id : goal.invariant-loop-id
invariant-loop-id l = AreExactly (λ id. (id < l.id) × (slice_index l.colours id ≡ l.colour)) l.ids
