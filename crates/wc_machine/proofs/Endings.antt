-- What the changes of a calculation that ends make of a world.
use Rattle.std.proofs.Common.{◌≡◌, ℕ, ℤ, suc, ◌+◌, false, Option, List, [], ◌∷◌, ◌++◌, map, length, sym, ◌∙◌}
use Rattle.std.proofs.lemmas.List.{append_assoc, append-nil}
use Rattle.wc_graph.specs.declared.link.Link.{Link}
use Rattle.wc_graph.specs.declared.link.LinkType.TheVariants.{Create}
use Rattle.wc_graph.specs.declared.node.NodeKind.{NodeKind}
use Rattle.wc_graph.specs.declared.node.NodeKind.TheVariants as node
use Rattle.wc_semantics.specs.Rules.{Values}
use Rattle.wc_semantics.specs.declared.outcomes.Parsed.{Parsed}
use Rattle.wc_state.specs.declared.record.Part.TheVariants as part
use Rattle.wc_state.specs.declared.record.ProcessRecord.{ProcessRecord}
use Rattle.wc_world.specs.declared.change.Change.{Change}
use Rattle.wc_records.specs.declared.change.SetProcess.{SetProcess}
use Rattle.wc_world.specs.World.{World}
use Rattle.wc_world.specs.Records.{at_process}
use Rattle.wc_world.specs.Applied.{set, changed, begun, applied}
use Rattle.wc_world.specs.Snapshot.{number_of}
use Rattle.wc_machine.specs.Ends.{creations, end_of, ends}

-- the data nodes of outputs
abbrev pub data_nodes : Values → List NodeKind
data_nodes os = map (λ o. node.Data o.1) os

-- the links that create data nodes that follow each other from this one on
abbrev pub creates : (next pid : ℕ) → Values → List Link
creates next pid [] = []
creates next pid (o ∷ os) = record { source = pid; target = next; link = Create; label = o.0 } ∷ creates (suc next) pid os

-- the world with these outputs of a process, whose nodes have the numbers from this one on
abbrev pub with_outputs : World → (next pid : ℕ) → Values → World
with_outputs w next pid os = record {
  nodes = w.nodes ++ data_nodes os;
  links = w.links ++ creates next pid os;
  records = w.records;
  libraries = w.libraries;
  batches = w.batches;
}

pub created_changed : (batch : ℕ) (w : World) (next pid : ℕ) (os : Values) (rest : List Change)
    → changed batch w (creations next pid os ++ rest) ≡ changed batch (with_outputs w next pid os) rest
created_changed batch w next pid [] rest =
    λ i. changed batch (record { nodes = sym (append-nil w.nodes) i; links = sym (append-nil w.links) i; records = w.records; libraries = w.libraries; batches = w.batches }) rest
created_changed batch w next pid (o ∷ os) rest =
    let l : Link = record { source = pid; target = next; link = Create; label = o.0 } in
    let v : World = record { nodes = w.nodes ++ node.Data o.1 ∷ []; links = w.links ++ l ∷ []; records = w.records; libraries = w.libraries; batches = w.batches } in
    created_changed batch v (suc next) pid os rest
    ∙ (λ i. changed batch (record {
      nodes = append_assoc w.nodes (node.Data o.1 ∷ []) (data_nodes os) i;
      links = append_assoc w.links (l ∷ []) (creates (suc next) pid os) i;
      records = w.records;
      libraries = w.libraries;
      batches = w.batches;
    }) rest)

-- what a process that ends so is set to
abbrev pub end_set : ProcessRecord → Parsed → Option ℕ → Option ℤ → SetProcess
end_set r p source code = record {
  pid = r.node;
  state = p.state;
  paused = false;
  cached_from = number_of source;
  fuel = r.fuel;
  code = code;
  part = part.Over;
}

-- the record of a process that has ended so, in the next batch
abbrev pub end_record : World → ProcessRecord → Parsed → Option ℕ → Option ℤ → ProcessRecord → ProcessRecord
end_record w r p source code = set (w.batches + 1) (end_set r p source code)

-- the world in which a process has ended so
abbrev pub ended_world : World → ProcessRecord → Parsed → Option ℕ → Option ℤ → World
ended_world w r p source code = record {
  nodes = w.nodes ++ data_nodes p.outputs;
  links = w.links ++ creates (length w.nodes + 1) r.node p.outputs;
  records = at_process r.node (end_record w r p source code) w.records;
  libraries = w.libraries;
  batches = w.batches + 1;
}

pub applied_ends : (w : World) (r : ProcessRecord) (p : Parsed) (source : Option ℕ) (code : Option ℤ)
    → applied w (ends w r p source code) ≡ ended_world w r p source code
applied_ends w r p source code = created_changed (w.batches + 1) (begun w) (length w.nodes + 1) r.node p.outputs (end_of r p source code ∷ [])
