-- What contracts see of a world: lists alone, and the number of batches.
use Rattle.std.specs.Prelude.{ℕ, List, []}
use Rattle.wc_syntax.specs.declared.definition.Definition.{Definition}
use Rattle.wc_graph.specs.Provenance.{Provenance}
use Rattle.wc_graph.specs.declared.node.NodeKind.{NodeKind}
use Rattle.wc_graph.specs.declared.link.Link.{Link}
use Rattle.wc_state.specs.declared.record.ProcessRecord.{ProcessRecord}

-- a library, and the names of its definitions that have caching on
abbrev pub Known : Type 0
Known = List Definition × List (List ℕ)

-- What a store holds, as lists alone: nodes (numbered from 1), links, a record for each process, libraries (numbered from 1) with the names that have
-- caching on, and the number of batches
pub record World : Type 0 where
  -- numbered from 1
  pub nodes : List NodeKind
  pub links : List Link
  -- one for each process, in order of their numbers
  pub records : List ProcessRecord
  -- numbered from 1
  pub libraries : List Known
  pub batches : ℕ

-- the world that has nothing, and no batch
abbrev pub empty : World
empty = record { nodes = []; links = []; records = []; libraries = []; batches = 0 }

-- the world that a graph, records and libraries make, where there was no batch
abbrev pub made_of : Provenance → List ProcessRecord → List Known → World
made_of graph records libraries = record { nodes = graph.nodes; links = graph.links; records = records; libraries = libraries; batches = 0 }
