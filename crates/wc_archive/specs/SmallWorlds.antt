-- A function that adds two numbers, in a world with other nodes before and between, and its archive.
use Rattle.std.specs.Prelude.{◌≡◌, ℕ, pos, false, List, [], ◌∷◌, None, codes}
use Rattle.wc_value.specs.declared.process.ProcessState.TheVariants as state
use Rattle.wc_value.specs.declared.value.Value.TheVariants as value
use Rattle.wc_graph.specs.declared.link.Link.{Link}
use Rattle.wc_graph.specs.declared.link.LinkType.{LinkType}
use Rattle.wc_graph.specs.declared.link.LinkType.TheVariants as link
use Rattle.wc_graph.specs.declared.node.NodeKind.TheVariants as kept
use Rattle.wc_state.specs.declared.record.Part.TheVariants as part
use Rattle.wc_state.specs.declared.record.ProcessKind.TheVariants as kind
use Rattle.wc_state.specs.declared.record.ProcessRecord.{ProcessRecord}
use Rattle.wc_syntax.specs.declared.definition.Definition.{Definition}
use Rattle.wc_world.specs.World.{World}
use Rattle.wc_archive_file.specs.declared.archive.Archive.{Archive}
use Rattle.wc_archive_file.specs.declared.archive.ArchiveNode.TheVariants as node
use Rattle.wc_archive.specs.Closure.{archive_of}

-- a link
abbrev pub arrow : (source target : ℕ) → LinkType → List ℕ → Link
arrow source target type label = record { source = source; target = target; link = type; label = label }

-- a function of this name that finished
abbrev pub added : (node : ℕ) → List ℕ → ProcessRecord
added node name = record {
  node = node;
  kind = kind.Function;
  definition = name;
  library = 1;
  depth = 1;
  label = [];
  caching = false;
  state = state.Finished 0;
  paused = false;
  cached_from = None;
  fuel = 0;
  code = None;
  started = 2;
  ended = 2;
  part = part.Over;
}

-- 2 and 3 are added to 5; the 3 and a 7 are also added, by another function, to 10
abbrev pub sums : List Definition → World
sums library = record {
  nodes =
      kept.Data (value.Int (pos 7)) ∷ (kept.Data (value.Int (pos 2)) ∷ (kept.Data (value.Int (pos 3)) ∷ (kept.Calculation ∷ (kept.Calculation ∷ (kept.Data (value.Int (pos 10))
      ∷ (kept.Data (value.Int (pos 5)) ∷ []))))));
  links =
      arrow 2 4 link.InputCalc (codes "x")
      ∷ (arrow 3 4 link.InputCalc (codes "y")
      ∷ (arrow 1 5 link.InputCalc (codes "x")
      ∷ (arrow 3 5 link.InputCalc (codes "y") ∷ (arrow 5 6 link.Create (codes "sum") ∷ (arrow 4 7 link.Create (codes "sum") ∷ [])))));
  records = added 4 (codes "add") ∷ (added 5 (codes "plus") ∷ []);
  libraries = (library, []) ∷ [];
  batches = 3;
}

-- the archive of the first: its two inputs, itself and its output, with its three links
abbrev pub sum_archive : List Definition → Archive
sum_archive library = record {
  library = library;
  links = arrow 1 3 link.InputCalc (codes "x") ∷ (arrow 2 3 link.InputCalc (codes "y") ∷ (arrow 3 4 link.Create (codes "sum") ∷ []));
  nodes =
      node.Data (value.Int (pos 2))
      ∷ (node.Data (value.Int (pos 3))
      ∷ (node.Process (record {
        kind = kind.Function;
        definition = codes "add";
        depth = 1;
        label = [];
        state = state.Finished 0;
        fuel = 0;
        code = None;
      })
      ∷ (node.Data (value.Int (pos 5)) ∷ [])));
}

-- This is its archive, whatever the library.
abbrev pub SumsAreArchived : Type 0
SumsAreArchived = (library : List Definition) → archive_of (sums library) 4 library ≡ sum_archive library
