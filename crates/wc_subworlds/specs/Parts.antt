-- When a world is part of another.
use Rattle.std.specs.Prelude.{◌≡◌, ◌↔◌, ℕ, ◌<◌, Some, map, option_map}
use Rattle.wc_value.specs.declared.process.JobResult.{JobResult}
use Rattle.wc_graph.specs.Index.{source_of, target_of}
use Rattle.wc_graph.specs.Rules.{node_of}
use Rattle.wc_graph.specs.declared.link.Link.{Link}
use Rattle.wc_graph.specs.declared.node.NodeKind.{NodeKind}
use Rattle.wc_state.specs.declared.record.ProcessRecord.{ProcessRecord}
use Rattle.wc_semantics.specs.Tables.{Path, Table}
use Rattle.wc_world.specs.World.{World}
use Rattle.wc_world.specs.Linked.{of_node}
use Rattle.wc_world.specs.Records.{find_record, library_at}
use Rattle.wc_world.specs.Trees.{recorded_tree}
use Rattle.wc_machine.specs.Agreement.{Agrees}
use Rattle.wc_machine.specs.Paths.{call_links, follow, kills}
use Rattle.wc_machine.specs.Recorded.{its_definition, recorded_inputs, recorded_outputs, recorded_request, HasResult}
use Rattle.wc_machine.specs.Sound.{IsMeant}

-- a map of numbers rises: a higher number has a higher place
abbrev pub Rises : (ℕ → ℕ) → Type 0
Rises place = (i j : ℕ) → i < j → place i < place j

-- a link between the places of its ends
abbrev pub placed : (ℕ → ℕ) → Link → Link
placed place l = record { source = place l.source; target = place l.target; link = l.link; label = l.label }

-- Two records, each in its world, are of one process: of one kind and state, at one depth under one label, with the same fuel, of one
-- definition of equal libraries. They differ in number at most, in batches, in what concerns caching, and in what stands for its result.
pub record IsSameProcess (u w : World) (r s : ProcessRecord) : Type 0 where
  pub kind : s.kind ≡ r.kind
  pub definition : s.definition ≡ r.definition
  pub library : library_at w.libraries s.library ≡ library_at u.libraries r.library
  pub depth : s.depth ≡ r.depth
  pub label : s.label ≡ r.label
  pub state : s.state ≡ r.state
  pub fuel : s.fuel ≡ r.fuel

-- The process with this number stands at its place: its record is there, with the same recorded results, and with the same links, in the same
-- order, between the places of their ends.
pub record StandsAt (place : ℕ → ℕ) (u w : World) (pid : ℕ) (r : ProcessRecord) : Type 0 where
  pub there : ProcessRecord
  pub found : find_record (place pid) w.records ≡ Some there
  pub same : IsSameProcess u w r there
  pub results : (x : JobResult) → HasResult u pid x ↔ HasResult w (place pid) x
  pub leaving : of_node source_of (place pid) w.links ≡ map (placed place) (of_node source_of pid u.links)
  pub entering : of_node target_of (place pid) w.links ≡ map (placed place) (of_node target_of pid u.links)

-- The world u is part of the world w along a rising map of node numbers: each of its nodes is one of the same kind and value at its place, and
-- each of its processes stands at its place.
pub record IsPart (place : ℕ → ℕ) (u w : World) : Type 0 where
  pub rises : Rises place
  pub nodes : (id : ℕ) (n : NodeKind) → node_of u.nodes id ≡ Some n → node_of w.nodes (place id) ≡ Some n
  pub processes : (pid : ℕ) (r : ProcessRecord) → find_record pid u.records ≡ Some r → StandsAt place u w pid r

-- Both worlds tell the same of a process whose record is r in the part u and s in the whole w: its definition, its inputs, outputs and request
-- by label and value, its calls, where call paths lead, which processes below it were killed after how many calls, its tree, which tables
-- agree with it, and that it is meant.
pub record TellTheSame (place : ℕ → ℕ) (u w : World) (r s : ProcessRecord) : Type 0 where
  pub number : s.node ≡ place r.node
  pub definition : its_definition w s ≡ its_definition u r
  pub inputs : recorded_inputs w s.node ≡ recorded_inputs u r.node
  pub outputs : recorded_outputs w s.node ≡ recorded_outputs u r.node
  pub request : recorded_request w s ≡ recorded_request u r
  pub calls : call_links w s.node ≡ map (placed place) (call_links u r.node)
  pub paths : (path : Path) → follow w.links s.node path ≡ option_map place (follow u.links r.node path)
  pub kills : (path : Path) → kills w s.node path ≡ kills u r.node path
  pub tree : recorded_tree w s.node ≡ recorded_tree u r.node
  pub agrees : (table : Table) → Agrees table u r.node ↔ Agrees table w s.node
  pub meant : IsMeant u r ↔ IsMeant w s
