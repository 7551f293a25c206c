-- What an archive of a root has of a world: the root, all that it called through calls, and the data linked with these.
use Rattle.std.specs.Prelude.{ℕ, zero, suc, ◌==◌, Bool, ◌&&◌, ◌||◌, if◌then◌else◌, List, [], ◌∷◌, length, map, filter, Option, Some, option_map, option_and_then}
use Rattle.std.specs.List.{list_any, filter_map}
use Rattle.wc_graph.specs.Rules.{node_of}
use Rattle.wc_graph.specs.declared.link.Link.{Link}
use Rattle.wc_graph.specs.declared.node.NodeKind.{NodeKind}
use Rattle.wc_graph.specs.declared.node.NodeKind.TheVariants as kept
use Rattle.wc_state.specs.declared.record.ProcessRecord.{ProcessRecord}
use Rattle.wc_syntax.specs.declared.definition.Definition.{Definition}
use Rattle.wc_world.specs.World.{World}
use Rattle.wc_world.specs.Records.{find_record, is_call_from, takes_input}
use Rattle.wc_machine.specs.Results.{result_of}
use Rattle.wc_archive_file.specs.declared.archive.Archive.{Archive}
use Rattle.wc_archive_file.specs.declared.archive.ArchiveNode.{ArchiveNode}
use Rattle.wc_archive_file.specs.declared.archive.ArchiveNode.TheVariants as node
use Rattle.wc_archive_file.specs.declared.archive.ArchiveProcess.{ArchiveProcess}

-- ---- the closure

-- a process is the first one, or is reached from it by at most so many calls
abbrev pub is_below_within : ℕ → List Link → (root pid : ℕ) → Bool
is_below_within zero links root pid = root == pid
is_below_within (suc levels) links root pid = (root == pid) || list_any (λ l. is_call_from root l && is_below_within levels links l.target pid) links

-- Depths go from 1 to 16, and a call goes one deeper.
abbrev pub is_at_or_below : List Link → (root pid : ℕ) → Bool
is_at_or_below = is_below_within 16

-- the process whose link it is: that which takes the input, creates or returns the output, or calls
abbrev pub its_process : Link → ℕ
its_process l = if takes_input l.link then l.target else l.source

-- a link of the root or of a process below it
abbrev pub is_carried : List Link → ℕ → Link → Bool
is_carried links root l = is_at_or_below links root (its_process l)

-- a node that is the root or a process below it, or at an end of a link of one
abbrev pub is_in_closure : List Link → ℕ → ℕ → Bool
is_in_closure links root id = is_at_or_below links root id || list_any (λ l. is_carried links root l && ((l.source == id) || (l.target == id))) links

-- the numbers from one on, so many
abbrev pub numbers_from : ℕ → ℕ → List ℕ
numbers_from n zero = []
numbers_from n (suc count) = n ∷ numbers_from (suc n) count

-- the numbers of the closure of a root, ascending
abbrev pub closure : World → ℕ → List ℕ
closure w root = filter (is_in_closure w.links root) (numbers_from 1 (length w.nodes))

-- ---- numbers in the archive

-- where a number stands among others, the first of which has this place; 0 where it doesn't
abbrev pub place_from : ℕ → List ℕ → ℕ → ℕ
place_from n [] id = 0
place_from n (x ∷ xs) id = if x == id then n else place_from (suc n) xs id

-- the number of a node in the archive: its place in the closure, counted from 1
abbrev pub archive_number : List ℕ → ℕ → ℕ
archive_number ids = place_from 1 ids

-- a link between the archive's numbers of its ends
abbrev pub renumbered : List ℕ → Link → Link
renumbered ids l = record { source = archive_number ids l.source; target = archive_number ids l.target; link = l.link; label = l.label }

-- ---- the archive of a root

-- what is kept of a process: a job with a recorded result has its exit code, whether it ran itself or took another's outcome
abbrev pub archived_process : World → ProcessRecord → ArchiveProcess
archived_process w r = record {
  kind = r.kind;
  definition = r.definition;
  depth = r.depth;
  label = r.label;
  state = r.state;
  fuel = r.fuel;
  code = option_map (λ x. x.code) (result_of w r.node);
}

-- what is kept of a node, by its kind: the value of data, and of a process what is kept of its record
abbrev pub archived_kind : World → ℕ → NodeKind → Option ArchiveNode
archived_kind w id (kept.Data v) = Some (node.Data v)
archived_kind w id kept.Calculation = option_map (λ r. node.Process (archived_process w r)) (find_record id w.records)
archived_kind w id kept.Workflow = option_map (λ r. node.Process (archived_process w r)) (find_record id w.records)

-- what is kept of the node with this number
abbrev pub archived_node : World → ℕ → Option ArchiveNode
archived_node w id = option_and_then (archived_kind w id) (node_of w.nodes id)

-- The nodes of the closure in order of their numbers, and the links of the root and of what is below it in order of the world's links, between
-- the archive's numbers; with the library of the root.
abbrev pub archive_of : World → ℕ → List Definition → Archive
archive_of w root library = record {
  library = library;
  links = map (renumbered (closure w root)) (filter (is_carried w.links root) w.links);
  nodes = filter_map (archived_node w) (closure w root);
}
