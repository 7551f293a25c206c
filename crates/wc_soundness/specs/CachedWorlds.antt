-- A job that has ended, and one with an equal key that takes its outcome.
use Rattle.std.specs.Prelude.{ℕ, ℤ, pos, true, false, List, [], ◌∷◌, ◌++◌, Option, Some, None, codes}
use Rattle.wc_value.specs.declared.process.ProcessState.{ProcessState}
use Rattle.wc_value.specs.declared.process.ProcessState.TheVariants as state
use Rattle.wc_value.specs.declared.value.Value.TheVariants as value
use Rattle.wc_graph.specs.declared.link.Link.{Link}
use Rattle.wc_graph.specs.declared.link.LinkType.TheVariants as link
use Rattle.wc_graph.specs.declared.node.NodeKind.{NodeKind}
use Rattle.wc_graph.specs.declared.node.NodeKind.TheVariants as kept
use Rattle.wc_semantics.specs.Rules.{Values}
use Rattle.wc_state.specs.declared.record.Part.{Part}
use Rattle.wc_state.specs.declared.record.Part.TheVariants as part
use Rattle.wc_state.specs.declared.record.ProcessKind.TheVariants as kind
use Rattle.wc_state.specs.declared.record.ProcessRecord.{ProcessRecord}
use Rattle.wc_world.specs.World.{World, Known}
use Rattle.wc_world.specs.declared.change.Change.{Change}
use Rattle.wc_world.specs.declared.change.Change.TheVariants as change
use Rattle.wc_soundness.specs.Words.{arrow}
use Rattle.wc_soundness.specs.Library.{library}
use Rattle.wc_soundness.specs.FanWorlds.{printed}

-- the library, with caching on for its job
abbrev pub with_caching : Known
with_caching = (library, codes "double" ∷ [])

-- the input of both jobs
abbrev pub input : Values
input = (codes "x", value.Int (pos 2)) ∷ []

-- the record of one of the two jobs
abbrev pub job_record : (pid library : ℕ) → ProcessState → (source : Option ℕ) → (code : Option ℤ) → (started ended : ℕ) → Part → ProcessRecord
job_record pid library s source code started ended p = record {
  node = pid;
  kind = kind.Job;
  definition = codes "double";
  library = library;
  depth = 1;
  label = [];
  caching = true;
  state = s;
  paused = false;
  cached_from = source;
  fuel = 0;
  code = code;
  started = started;
  ended = ended;
  part = p;
}

-- the first job, which found no source
abbrev pub source : ProcessRecord
source = job_record 2 1 (state.Finished 0) None (Some (pos 0)) 2 6 part.Over

-- the record of the second job once it is submitted
abbrev pub fresh : ProcessRecord
fresh = job_record 6 2 state.Created None None 0 0 part.Fresh

-- it took the outcome of the first, and has no exit code of its own
abbrev pub taker : ProcessRecord
taker = job_record 6 2 (state.Finished 0) (Some 2) None 8 8 part.Over

-- the nodes once the first job has ended
abbrev pub ended_nodes : List NodeKind
ended_nodes = kept.Data (value.Int (pos 2)) ∷ (kept.Calculation ∷ (kept.Data (value.Folder (printed 52)) ∷ (kept.Data (value.Int (pos 4)) ∷ [])))

-- the nodes once the second job is submitted
abbrev pub submitted_nodes : List NodeKind
submitted_nodes = ended_nodes ++ kept.Data (value.Int (pos 2)) ∷ (kept.Calculation ∷ [])

-- the nodes once the second job has the outcome
abbrev pub cloned_nodes : List NodeKind
cloned_nodes = submitted_nodes ++ kept.Data (value.Folder (printed 52)) ∷ (kept.Data (value.Int (pos 4)) ∷ [])

-- the links once the first job has ended
abbrev pub ended_links : List Link
ended_links = arrow 1 2 link.InputCalc (codes "x") ∷ (arrow 2 3 link.Create (codes "retrieved") ∷ (arrow 2 4 link.Create (codes "value") ∷ []))

-- the links once the second job is submitted
abbrev pub submitted_links : List Link
submitted_links = ended_links ++ arrow 5 6 link.InputCalc (codes "x") ∷ []

-- the links once the second job has the outcome
abbrev pub cloned_links : List Link
cloned_links = submitted_links ++ arrow 6 7 link.Create (codes "retrieved") ∷ (arrow 6 8 link.Create (codes "value") ∷ [])

-- the world once the first job has ended
abbrev pub ended : World
ended = record { nodes = ended_nodes; links = ended_links; records = source ∷ []; libraries = with_caching ∷ []; batches = 6 }

-- the world once the second job is submitted
abbrev pub submitted : World
submitted =
    record { nodes = submitted_nodes; links = submitted_links; records = source ∷ (fresh ∷ []); libraries = with_caching ∷ (with_caching ∷ []); batches = 7 }

-- the world once the second job has the outcome
abbrev pub cloned : World
cloned = record { nodes = cloned_nodes; links = cloned_links; records = source ∷ (taker ∷ []); libraries = with_caching ∷ (with_caching ∷ []); batches = 8 }

-- ---- changes

-- the changes of the second submission
abbrev pub submission_changes : List Change
submission_changes =
    change.Library library (codes "double" ∷ [])
    ∷ (change.Data (value.Int (pos 2))
    ∷ (change.Process (record { kind = kind.Job; definition = codes "double"; library = 2; depth = 1; label = []; caching = true })
    ∷ (change.Link (arrow 5 6 link.InputCalc (codes "x")) ∷ [])))

-- clones of the folder and the number, and the end
abbrev pub clone_changes : List Change
clone_changes =
    change.Data (value.Folder (printed 52))
    ∷ (change.Link (arrow 6 7 link.Create (codes "retrieved"))
    ∷ (change.Data (value.Int (pos 4))
    ∷ (change.Link (arrow 6 8 link.Create (codes "value"))
    ∷ (change.Set (record { pid = 6; state = state.Finished 0; paused = false; cached_from = 2; fuel = 0; code = None; part = part.Over }) ∷ []))))
