use Rattle.std.proofs.Common.{◌≡◌, ◌+◌, ◌++◌, drop}
use Rattle.std.specs.Prelude.{string_bytes}
use Rattle.wc_report.specs.Shows.{node_lines}
use Rattle.wc_report.proofs.graph.put_nodes.Given as goal

abbrev pub invariant-loop-node : goal.invariant-loop-node
invariant-loop-node l = record {
  number : l.number ≡ l.node-index + 1;
  lines : string_bytes l.out ++ node_lines l.world.world.records l.number (drop l.node-index l.nodes)
      ≡ string_bytes l.fn.out ++ node_lines l.world.world.records 1 l.nodes;
}
