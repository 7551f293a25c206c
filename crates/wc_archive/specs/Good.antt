-- When the links, nodes and processes of an archive are good.
use Rattle.std.specs.Prelude.{◌≡◌, ◌≢◌, ◌⊎◌, ℕ, ◌<◌, ◌≤◌, true, List, [], take, map, All, Some, slice_get}
use Rattle.wc_graph.specs.Refusals.{IsAllowed}
use Rattle.wc_graph.specs.declared.link.Link.{Link}
use Rattle.wc_graph.specs.declared.node.NodeKind.{NodeKind}
use Rattle.wc_graph.specs.declared.node.NodeKind.TheVariants as kept
use Rattle.wc_state.specs.declared.record.ProcessKind.TheVariants as kind
use Rattle.wc_state.specs.declared.record.ProcessRecord.{ProcessRecord}
use Rattle.wc_value.specs.declared.process.JobResult.{JobResult}
use Rattle.wc_value.specs.declared.process.Request.{Request}
use Rattle.wc_expression.specs.declared.outcome.Outcome.TheVariants.{Gives}
use Rattle.wc_semantics.specs.Tables.{Table}
use Rattle.wc_semantics.specs.declared.progress.Answer.TheVariants.{Gave}
use Rattle.wc_semantics.specs.declared.progress.Replayed.{Replayed}
use Rattle.wc_world.specs.World.{World}
use Rattle.wc_world.specs.Fits.{call_fits, is_of_kind}
use Rattle.wc_world.specs.Records.{find_record, has_ended, process_node}
use Rattle.wc_world.specs.Trees.{recorded_tree}
use Rattle.wc_machine.specs.Paths.{kills}
use Rattle.wc_machine.specs.Recorded.{its_definition, recorded_request}
use Rattle.wc_machine.specs.Rest.{meant}
use Rattle.wc_machine.specs.Results.{result_of, rows_of}
use Rattle.wc_machine.specs.Sound.{GoesUp, IsFitting, IsPlaced, KeepsFew, is_call_to}
use Rattle.wc_subworlds.specs.Asks.{asks_of}
use Rattle.wc_archive_file.specs.declared.archive.ArchiveNode.{ArchiveNode}
use Rattle.wc_archive_file.specs.declared.archive.ArchiveNode.TheVariants as node

-- ---- links

-- what a node is in a graph
abbrev pub kind_of_node : ArchiveNode → NodeKind
kind_of_node (node.Data v) = kept.Data v
kind_of_node (node.Process p) = process_node p.kind

-- the link breaks no rule of links behind those before it, and goes up where it is of data provenance
pub record IsGoodLink (nodes : List NodeKind) (before : List Link) (l : Link) : Type 0 where
  pub allowed : IsAllowed nodes before l
  pub upward : GoesUp l

-- the link at this place, if there is one, is good behind those before it
abbrev pub IsGoodLinkAt : List NodeKind → List Link → ℕ → Type 0
IsGoodLinkAt nodes links i = (l : Link) → slice_get links i ≡ Some l → IsGoodLink nodes (take i links) l

-- each link is good behind those before it
abbrev pub AreGoodLinks : List NodeKind → List Link → Type 0
AreGoodLinks nodes links = (i : ℕ) → IsGoodLinkAt nodes links i

-- the first link that isn't good, counted from 0
pub record IsFirstBadLink (nodes : List NodeKind) (links : List Link) (at : ℕ) : Type 0 where
  pub link : Link
  pub stands : slice_get links at ≡ Some link
  pub bad : ¬ IsGoodLink nodes (take at links) link
  pub first : (i : ℕ) → i < at → IsGoodLinkAt nodes links i

-- ---- processes

-- A process of an archive is good: it has ended; its definition is there and of its kind; its depth is 1 to 16; it fits and is placed as the
-- records of a sound world are; a call to it comes from one level above, under its label; no more fuel is kept of it than can be; and where it
-- is a root, no earlier process is one.
pub record IsGoodProcess (u : World) (r : ProcessRecord) : Type 0 where
  pub ended : has_ended r.state ≡ true
  pub defined : is_of_kind r.kind (its_definition u r) ≡ true
  pub not_below : 1 ≤ r.depth
  pub not_above : r.depth ≤ 16
  pub fits : IsFitting u r
  pub placed : IsPlaced u r
  pub called : All (λ l. is_call_to r.node l ≡ true → call_fits u.records l ≡ true) u.links
  pub few : KeepsFew r
  pub one_root : r.depth ≡ 1 → All (λ q. q.node < r.node → q.depth ≢ 1) u.records

-- there is a process, and each one is good
pub record AreGoodProcesses (u : World) : Type 0 where
  pub some : u.records ≢ []
  pub each : All (IsGoodProcess u) u.records

-- the first process that isn't good, or 0 where there is no process
abbrev pub IsFirstBadProcess : World → ℕ → Type 0
IsFirstBadProcess u pid =
    ((pid ≡ 0) × (u.records ≡ []))
    ⊎ (((r : ProcessRecord) × (find_record pid u.records ≡ Some r) × (¬ IsGoodProcess u r)) × All (λ q. q.node < pid → IsGoodProcess u q) u.records)

-- ---- work chains

-- the recorded results by request alone
abbrev pub results_in : World → Table
results_in u path q = rows_of u (map (λ r. r.node) u.records) q

-- A replay of the chain with its fuel, its kills and the archive's results gives its recorded tree, and asked just what is recorded of its jobs, by
-- call path, request and order.
pub record IsGoodChain (u : World) (r : ProcessRecord) : Type 0 where
  pub replayed : Replayed
  pub left : ℕ
  pub gives : meant u r (results_in u) (kills u r.node) r.fuel ≡ Some (Gave replayed left)
  pub tree : recorded_tree u r.node ≡ Some replayed.tree
  pub asked : replayed.asked ≡ asks_of u r.node

-- each work chain is good
abbrev pub AreGoodChains : World → Type 0
AreGoodChains u = All (λ r. r.kind ≡ kind.Chain → IsGoodChain u r) u.records

-- the first work chain that isn't good
abbrev pub IsFirstBadChain : World → ℕ → Type 0
IsFirstBadChain u pid =
    ((r : ProcessRecord) × (find_record pid u.records ≡ Some r) × (r.kind ≡ kind.Chain) × (¬ IsGoodChain u r))
    × All (λ q. q.node < pid → q.kind ≡ kind.Chain → IsGoodChain u q) u.records

-- ---- results against those of another world

-- a job of the archive and one of the world have equal requests and different recorded results
pub record AreInConflict (u w : World) (n pid : ℕ) : Type 0 where
  pub one : ProcessRecord
  pub other : ProcessRecord
  pub one_found : find_record n u.records ≡ Some one
  pub other_found : find_record pid w.records ≡ Some other
  pub request : Request
  pub one_asks : recorded_request u one ≡ Some (Gives request)
  pub other_asks : recorded_request w other ≡ Some (Gives request)
  pub one_result : JobResult
  pub other_result : JobResult
  pub one_has : result_of u n ≡ Some one_result
  pub other_has : result_of w pid ≡ Some other_result
  pub differ : one_result ≢ other_result
