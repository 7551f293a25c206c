-- Links that lead upward make no circle.
use Rattle.std.proofs.Common.{◌≡◌, ℕ, zero, suc, ◌<◌, true, List, [], ◌∷◌, get_or, sym, ap, subst, arith}
use Rattle.std.specs.Prelude.{All, Contains}
use Rattle.wc_graph.specs.Walks.{Leads, Walks, data_types, IsAcyclic}
use Rattle.wc_graph.specs.declared.link.Link.{Link}
use Rattle.wc_graph.specs.declared.link.LinkType.{LinkType}
use Rattle.wc_machine.specs.Sound.{is_provenance, GoesUp}

data_is_provenance : (t : LinkType) → Contains data_types t → is_provenance t ≡ true
data_is_provenance t (zero, lt, is) = ap is_provenance (sym is)
data_is_provenance t (suc zero, lt, is) = ap is_provenance (sym is)
data_is_provenance t (suc (suc k), lt, is) = absurd (omega arith)

step_up : (links : List Link) → All GoesUp links → (from to : ℕ) → Leads data_types links from to → from < to
step_up links up from to h =
    let l = h.1 in
    let is : get_or links h.0 l ≡ l = h.3 in
    let goes : GoesUp l = subst GoesUp is (up h.0 l h.2) in
    let lt : l.source < l.target = goes (data_is_provenance l.link h.4.0) in
    let s : l.source ≡ from = h.4.1 in
    let t : l.target ≡ to = h.4.2 in
    omega arith

walk_up : (links : List Link) → All GoesUp links → (from to : ℕ) (through : List ℕ) → Walks (Leads data_types links) from through to → from < to
walk_up links up from to [] h = step_up links up from to h
walk_up links up from to (next ∷ rest) h =
    let a : from < next = step_up links up from next h.0 in
    let b : next < to = walk_up links up next to rest h.1 in
    omega arith

pub upward_is_acyclic : (links : List Link) → All GoesUp links → IsAcyclic links
upward_is_acyclic links up node h =
    let lt : node < node = walk_up links up node node h.0 h.1 in
    absurd (omega arith)
