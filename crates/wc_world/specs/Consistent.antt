-- What holds of each world that accepted changes make.
use Rattle.std.specs.Prelude.{◌≡◌, ℕ, suc, ◌≤◌, ◌==◌, nat_le, nat_lt, Bool, true, false, ◌&&◌, if◌then◌else◌, List, [], ◌∷◌, length, map, All, Option, Some, None}
use Rattle.wc_value.specs.Spelling.{depth}
use Rattle.wc_graph.specs.Rules.{IsCall, IsLinkCorrect}
use Rattle.wc_graph.specs.declared.node.NodeKind.{NodeKind}
use Rattle.wc_graph.specs.declared.node.NodeKind.TheVariants as node
use Rattle.wc_state.specs.declared.record.ProcessRecord.{ProcessRecord}
use Rattle.wc_world.specs.World.{World}
use Rattle.wc_world.specs.Records.{find_record, has_ended, process_node, is_calculation, definition_in}
use Rattle.wc_world.specs.Fits.{names_ascend, is_of_kind, call_fits, part_fits, fails_fit, standing_fits, is_settled}

-- the numbers of the process nodes, each with what it is, where the first node has this number
abbrev pub processes_from : ℕ → List NodeKind → List (ℕ × NodeKind)
processes_from n [] = []
processes_from n (node.Data v ∷ ns) = processes_from (suc n) ns
processes_from n (node.Calculation ∷ ns) = (n, node.Calculation) ∷ processes_from (suc n) ns
processes_from n (node.Workflow ∷ ns) = (n, node.Workflow) ∷ processes_from (suc n) ns

-- a record's number beside its node
abbrev pub process_of : ProcessRecord → ℕ × NodeKind
process_of r = (r.node, process_node r.kind)

-- the value of a data node is at most 32 deep
abbrev pub IsShallow : NodeKind → Type 0
IsShallow (node.Data v) = depth v ≤ 32
IsShallow node.Calculation = Unit {0}
IsShallow node.Workflow = Unit {0}

-- whether a record is a calculation that ended in an earlier batch than the one in which this process started
abbrev pub is_earlier_source : ProcessRecord → Option ProcessRecord → Bool
is_earlier_source r None = false
is_earlier_source r (Some q) = is_calculation q.kind && (nat_lt 0 q.ended && nat_lt q.ended r.started)

-- a source is a calculation that ended in a batch before the one in which the process started
abbrev pub source_stands : List ProcessRecord → ProcessRecord → Option ℕ → Bool
source_stands records r None = true
source_stands records r (Some pid) = nat_lt 0 pid && is_earlier_source r (find_record pid records)

-- whether a record has the batch of its end, not before that of its start, exactly where it has ended
abbrev pub ended_stands : ProcessRecord → Bool
ended_stands r = if has_ended r.state then nat_lt 0 r.ended && nat_le r.started r.ended else (r.ended == 0)

-- A record fits its world.
pub record Stands (w : World) (r : ProcessRecord) : Type 0 where
  pub defined : is_of_kind r.kind (definition_in w.libraries r.library r.definition) ≡ true
  pub not_below : 1 ≤ r.depth
  pub not_above : r.depth ≤ 16
  pub part : part_fits r.kind r.state r.part ≡ true
  pub fails : fails_fit r.part r.paused ≡ true
  pub standing : standing_fits w r r.part ≡ true
  pub source : source_stands w.records r r.cached_from ≡ true
  pub started : r.started ≤ w.batches
  pub ended : r.ended ≤ w.batches
  pub ends : ended_stands r ≡ true
  pub settled : is_settled w.links r ≡ true

-- The lists of a world fit each other.
pub record IsConsistent (w : World) : Type 0 where
  pub few : length w.nodes ≤ 8000000
  pub batches : w.batches ≤ 4000000000
  pub shallow : All IsShallow w.nodes
  pub names : All (λ k. names_ascend k.1 ≡ true) w.libraries
  -- each process node has a record and no other has one, in the same order
  pub numbered : map process_of w.records ≡ processes_from 1 w.nodes
  pub links : IsLinkCorrect w.nodes w.links
  pub calls : All (λ l. IsCall l.link → call_fits w.records l ≡ true) w.links
  pub records : All (Stands w) w.records
