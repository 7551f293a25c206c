-- The first node of a least closed walk lies on a cycle.
use Rattle.std.proofs.Common.{ℕ, List, [], ◌∷◌, slice_index}
use Rattle.std.specs.Prelude.{Some}
use Rattle.wc_graph.specs.declared.link.Link.{Link}
use Rattle.wc_graph.specs.Walks.{Leads, IsClosedWalk, data_types}
use Rattle.wc_graph.specs.Cycle.{IsLeastCycle}
use Rattle.wc_verify.specs.Faults.{LiesOnCycle, IsLeastOnCycle}

closed_first : (links : List Link) (ids : List ℕ) → IsClosedWalk (Leads data_types links) ids → LiesOnCycle links (slice_index ids 0)
closed_first links [] h = absurd h
closed_first links (first ∷ rest) h = (rest, h)

pub least_first : (links : List Link) (ids : List ℕ) → IsLeastCycle (Leads data_types links) ids → IsLeastOnCycle links (Some (slice_index ids 0))
least_first links ids h = (closed_first links ids h.closed, h.least)
