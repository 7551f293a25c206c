-- What the nodes of a snapshot take of its records.
use Rattle.std.specs.Prelude.{List, [], ◌∷◌}
use Rattle.wc_graph.specs.declared.node.NodeKind.{NodeKind}
use Rattle.wc_graph.specs.declared.node.NodeKind.TheVariants as node
use Rattle.wc_state.specs.declared.record.ProcessRecord.{ProcessRecord}

-- all records but the first
abbrev pub behind_first : List ProcessRecord → List ProcessRecord
behind_first [] = []
behind_first (r ∷ rs) = rs

-- the records that are left behind a node, of which a process node takes the first
abbrev pub left_behind : NodeKind → List ProcessRecord → List ProcessRecord
left_behind (node.Data v) rs = rs
left_behind node.Calculation rs = behind_first rs
left_behind node.Workflow rs = behind_first rs
