-- An archive as a world of its own, and what an import adds to a world.
use Rattle.std.specs.Prelude.{ℕ, suc, ◌+◌, false, List, [], ◌∷◌, ◌++◌, length, map}
use Rattle.wc_graph.specs.declared.link.Link.{Link}
use Rattle.wc_state.specs.declared.record.Part.TheVariants as part
use Rattle.wc_world.specs.declared.change.Change.{Change}
use Rattle.wc_world.specs.declared.change.Change.TheVariants as change
use Rattle.wc_records.specs.declared.change.NewProcess.{NewProcess}
use Rattle.wc_records.specs.declared.change.SetProcess.{SetProcess}
use Rattle.wc_world.specs.World.{World, empty}
use Rattle.wc_world.specs.Applied.{applied}
use Rattle.wc_subworlds.specs.Parts.{placed}
use Rattle.wc_archive_file.specs.declared.archive.Archive.{Archive}
use Rattle.wc_archive_file.specs.declared.archive.ArchiveNode.{ArchiveNode}
use Rattle.wc_archive_file.specs.declared.archive.ArchiveNode.TheVariants as node
use Rattle.wc_archive_file.specs.declared.archive.ArchiveProcess.{ArchiveProcess}

-- numbers rise by the count of the nodes that are there
abbrev pub raised : ℕ → ℕ → ℕ
raised base n = base + n

-- the process as it is made, with caching off, of the library with this number
abbrev pub new_process : ℕ → ArchiveProcess → NewProcess
new_process library p = record { kind = p.kind; definition = p.definition; library = library; depth = p.depth; label = p.label; caching = false }

-- how a node is made: data with its value, a process as it is made
abbrev pub node_change : ℕ → ArchiveNode → Change
node_change library (node.Data v) = change.Data v
node_change library (node.Process p) = change.Process (new_process library p)

-- a link between the raised numbers of its ends
abbrev pub link_change : ℕ → Link → Change
link_change base l = change.Link (placed (raised base) l)

-- the process as it ended, with no source
abbrev pub ended_process : ℕ → ArchiveProcess → SetProcess
ended_process pid p = record { pid = pid; state = p.state; paused = false; cached_from = 0; fuel = p.fuel; code = p.code; part = part.Over }

-- each process as it ended, where the first of these nodes has this number
abbrev pub ends_from : ℕ → List ArchiveNode → List Change
ends_from pid [] = []
ends_from pid (node.Data v ∷ ns) = ends_from (suc pid) ns
ends_from pid (node.Process p ∷ ns) = change.Set (ended_process pid p) ∷ ends_from (suc pid) ns

-- The changes that add an archive behind so many nodes, where its library gets this number: the library, with caching on for no name; the
-- nodes in order; the links in order; and each process as it ended, in order of their numbers.
abbrev pub carried : (base library : ℕ) → Archive → List Change
carried base library a =
    change.Library a.library []
    ∷ (map (node_change library) a.nodes ++ (map (link_change base) a.links ++ ends_from (suc base) a.nodes))

-- an import's changes: the archive behind the nodes and libraries of the world
abbrev pub imported : World → Archive → List Change
imported w a = carried (length w.nodes) (suc (length w.libraries)) a

-- the archive as a world of its own
abbrev pub alone : Archive → World
alone a = applied empty (imported empty a)
