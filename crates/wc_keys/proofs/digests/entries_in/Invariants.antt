use Rattle.std.proofs.Common.{◌≡◌, ◌++◌, drop}
use Rattle.wc_keys.specs.Beginnings.{AreBegun}
use Rattle.wc_keys.specs.Keys.{entries_in}
use Rattle.wc_keys.proofs.digests.entries_in.Given as goal

-- the entries so far and those of what is left are all
abbrev pub invariant-loop-record : goal.invariant-loop-record
invariant-loop-record l = record {
  all : l.entries.items ++ entries_in l.graph.nodes l.graph.links l.libraries (drop l.record-index l.record-items) ≡ entries_in l.graph.nodes l.graph.links l.libraries l.record-items;
  begun : AreBegun l.libraries l.begun;
}
