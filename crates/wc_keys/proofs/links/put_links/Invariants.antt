use Rattle.std.proofs.Common.{map}
use Rattle.std.specs.Prelude.{flat_map}
use Rattle.std.specs.Borrow.{Bor}
use Rattle.sha2.specs.declared.Sha256.{Sha256}
use Rattle.wc_graph.specs.declared.link.Link.{Link}
use Rattle.wc_keys.specs.Hashing.{Adds}
use Rattle.wc_keys.specs.Ports.{links_in, link_bytes}
use Rattle.wc_keys.proofs.links.put_links.Given as goal

-- what adds the links that are left adds all
abbrev pub invariant-loop-link : goal.invariant-loop-link
invariant-loop-link l =
    (end : Sha256) → Adds l.hasher (flat_map (link_bytes l.nodes) (map (λ (r : Bor Link). r.now) l.link-iterator)) end → Adds l.fn.hasher (flat_map (link_bytes l.nodes) (links_in l.inputs)) end
