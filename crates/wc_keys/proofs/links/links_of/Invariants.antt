use Rattle.std.proofs.Common.{◌≡◌, ◌≤◌, length, drop}
use Rattle.wc_keys.specs.Ports.{input_links, by_port}
use Rattle.wc_keys.proofs.links.links_of.Given as goal

abbrev pub invariant-loop-at : goal.invariant-loop-at
invariant-loop-at l = (l.at ≤ length l.links) × (by_port l.inputs ≡ input_links l.nodes l.pid (drop l.at l.links))

abbrev pub decreases-loop-at : goal.decreases-loop-at
decreases-loop-at l = l.at
