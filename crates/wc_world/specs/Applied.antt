-- The world after some changes.
use Rattle.std.specs.Prelude.{ℕ, ◌+◌, List, [], ◌∷◌, ◌++◌, length}
use Rattle.wc_graph.specs.declared.node.NodeKind.TheVariants as node
use Rattle.wc_world.specs.declared.change.Change.{Change}
use Rattle.wc_world.specs.declared.change.Change.TheVariants as change
use Rattle.wc_world.specs.World.{World}
use Rattle.wc_world.specs.Records.{at_process, process_node}
pub use Rattle.wc_records.specs.Changes.{made, source_of, is_created, is_killed, started_in, ended_in, set, keep}

-- the number that the next node gets
abbrev pub next_number : World → ℕ
next_number w = length w.nodes + 1

-- the world after one change, in the batch of this number
abbrev pub after_change : ℕ → World → Change → World
after_change batch w (change.Library library names) = record {
  nodes = w.nodes;
  links = w.links;
  records = w.records;
  libraries = w.libraries ++ (library, names) ∷ [];
  batches = w.batches;
}
after_change batch w (change.Data v) = record {
  nodes = w.nodes ++ node.Data v ∷ [];
  links = w.links;
  records = w.records;
  libraries = w.libraries;
  batches = w.batches;
}
after_change batch w (change.Process n) = record {
  nodes = w.nodes ++ process_node n.kind ∷ [];
  links = w.links;
  records = w.records ++ made (next_number w) n ∷ [];
  libraries = w.libraries;
  batches = w.batches;
}
after_change batch w (change.Link l) = record {
  nodes = w.nodes;
  links = w.links ++ l ∷ [];
  records = w.records;
  libraries = w.libraries;
  batches = w.batches;
}
after_change batch w (change.Set s) = record {
  nodes = w.nodes;
  links = w.links;
  records = at_process s.pid (set batch s) w.records;
  libraries = w.libraries;
  batches = w.batches;
}
after_change batch w (change.Count n) = record {
  nodes = w.nodes;
  links = w.links;
  records = w.records;
  libraries = w.libraries;
  batches = n;
}
after_change batch w (change.Kept k) = record {
  nodes = w.nodes;
  links = w.links;
  records = at_process k.pid (keep k) w.records;
  libraries = w.libraries;
  batches = w.batches;
}

-- the world after changes one after another, in the batch of this number
abbrev pub changed : ℕ → World → List Change → World
changed batch w [] = w
changed batch w (c ∷ cs) = changed batch (after_change batch w c) cs

-- the world with one batch more
abbrev pub begun : World → World
begun w = record { nodes = w.nodes; links = w.links; records = w.records; libraries = w.libraries; batches = w.batches + 1 }

-- Changes are one batch more. A Count, which stands last, says how many batches there were.
abbrev pub applied : World → List Change → World
applied w cs = changed (w.batches + 1) (begun w) cs
