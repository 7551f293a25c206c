-- What a view of a world replies.
use Rattle.std.specs.Prelude.{◌≡◌, ◌⊎◌, ◌↔◌, ℕ, Bool, true, List, length, Option, Some, None}
use Rattle.wc_value.specs.declared.process.Tree.{Tree}
use Rattle.wc_world.specs.World.{World}
use Rattle.wc_world.specs.Records.{find_record}
use Rattle.wc_world.specs.Trees.{recorded_tree}
use Rattle.wc_graph.specs.Walks.{IsAcyclic}
use Rattle.wc_machine.specs.Created.{IsCreatedByInputs}
use Rattle.wc_verify.specs.Faults.{IsLeastDisagreement, IsLeastOnCycle, IsLowestWrong}
use Rattle.wc_report.specs.Lines.{cycle_text, wrong_value_text, verified_text}
use Rattle.wc_report.specs.Lists.{list_text}
use Rattle.wc_report.specs.Trees.{tree_text}
use Rattle.wc_report.specs.Shows.{show_text, graph_text}
use Rattle.wc_matches.specs.Query.{Query}
use Rattle.wc_matches.specs.First.{AreFirst, HasMore}
use Rattle.wc_matches.specs.Matches.{IsMatch}
use Rattle.wc_matches.specs.Texts.{rows_text}
use Rattle.wc_cli.specs.declared.command.View.{View}
use Rattle.wc_cli.specs.declared.command.View.TheVariants as view
use Rattle.wc_plan.specs.declared.deed.Shown.{Shown}
use Rattle.wc_plan.specs.declared.deed.Shown.TheVariants as shown
use Rattle.wc_plan.specs.declared.reply.Reply.{Reply}
use Rattle.wc_plan.specs.declared.status.Cause.TheVariants as cause
use Rattle.wc_plan.specs.declared.status.Fault.{Fault}
use Rattle.wc_plan.specs.declared.status.Fault.TheVariants as fault
use Rattle.wc_plan.specs.declared.status.Status.TheVariants as status
use Rattle.wc_plan.specs.Replies.{refuses, prints}
use Rattle.wc_act.specs.StoreDeeds.{Images}

-- a process is shown by its recorded tree, if there is such a process
abbrev pub ShowsTree : ℕ → World → Reply → Type 0
ShowsTree pid w r =
    ((find_record pid w.records ≡ None) × (r ≡ refuses (cause.UnknownProcess pid)))
    ⊎ ((t : Tree) × (recorded_tree w pid ≡ Some t) × (r ≡ prints (tree_text t)))

-- a node is shown, if there is such a node
abbrev pub node_reply : ℕ → Option (List ℕ) → Reply
node_reply node None = refuses (cause.UnknownNode node)
node_reply node (Some text) = prints text

-- ---- what is checked

-- the line for what is wrong with a world
abbrev pub fault_text : Fault → List ℕ
fault_text (fault.Cycle node) = cycle_text node
fault_text (fault.Value pid) = wrong_value_text pid

-- the world isn't sound
abbrev pub finds : Fault → Reply
finds f = record { status = status.Unsound f; text = fault_text f }

-- A cycle of data provenance is found before a calculation that isn't as its inputs give it. Where there is neither, the nodes and the links
-- are counted, and equal requests have equal results or the least two that disagree are told.
pub data Verifies (w : World) : Reply → Type 0 where
  cycle : (node : ℕ) → IsLeastOnCycle w.links (Some node) → Verifies w (finds (fault.Cycle node))
  value : (pid : ℕ) → IsAcyclic w.links → IsLowestWrong w (Some pid) → Verifies w (finds (fault.Value pid))
  verified : (disagreement : Option (ℕ × ℕ)) → IsAcyclic w.links → IsCreatedByInputs w → IsLeastDisagreement w disagreement
      → Verifies w (prints (verified_text (length w.nodes) (length w.links) disagreement))

-- each process has its line; a process has its tree; a node has its lines; each node and each link has its line; the world is
-- checked
abbrev pub ShowsView : View → World → Reply → Type 0
ShowsView view.List w r = r ≡ prints (list_text w.records)
ShowsView (view.Tree pid) w r = ShowsTree pid w r
ShowsView (view.Show node) w r = r ≡ node_reply node (show_text w node)
ShowsView view.Graph w r = r ≡ prints (graph_text w)
ShowsView view.Verify w r = Verifies w r

-- the first rows that match are listed, at most so many, and whether there are further ones
abbrev pub ShowsRows : Query → ℕ → World → Reply → Type 0
ShowsRows query limit w r = (rows : List (List ℕ)) × (more : Bool) × AreFirst (IsMatch w query) limit rows × ((more ≡ true) ↔ HasMore (IsMatch w query) rows)
    × (r ≡ prints (rows_text rows more))

-- what is replied where a world is shown: by a view (`ShowsView`), or by a query with its first rows (`ShowsRows`)
abbrev pub Shows : Shown → World → Reply → Type 0
Shows (shown.View v) w r = ShowsView v w r
Shows (shown.Query query limit) w r = ShowsRows query limit w r

-- the disks read as before
abbrev pub ShowsStill : Shown → Images → World → Images → Reply → Type 0
ShowsStill v before w after r = (after ≡ before) × Shows v w r
