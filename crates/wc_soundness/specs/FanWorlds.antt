-- A work chain that calls two jobs, at each of its moments. The second job ends before the first.
use Rattle.std.specs.Prelude.{◌≡◌, Bool, ℕ, ◌+◌, ℤ, pos, true, false, List, [], ◌∷◌, ◌++◌, Option, Some, None, codes}
use Rattle.wc_value.specs.declared.process.JobResult.{JobResult}
use Rattle.wc_value.specs.declared.process.ProcessState.{ProcessState}
use Rattle.wc_value.specs.declared.process.ProcessState.TheVariants as state
use Rattle.wc_value.specs.declared.process.Request.{Request}
use Rattle.wc_value.specs.declared.process.Tree.{Tree}
use Rattle.wc_value.specs.declared.value.Value.TheVariants as value
use Rattle.wc_graph.specs.declared.link.Link.{Link}
use Rattle.wc_graph.specs.declared.link.LinkType.TheVariants as link
use Rattle.wc_graph.specs.declared.node.NodeKind.{NodeKind}
use Rattle.wc_graph.specs.declared.node.NodeKind.TheVariants as kept
use Rattle.wc_state.specs.Context.{Pairs}
use Rattle.wc_state.specs.declared.context.CtxRef.TheVariants as held
use Rattle.wc_state.specs.declared.environment.Child.{Child}
use Rattle.wc_state.specs.declared.environment.Env.{Env}
use Rattle.wc_state.specs.declared.environment.Item.TheVariants as item
use Rattle.wc_state.specs.declared.environment.NodeValue.{NodeValue}
use Rattle.wc_state.specs.declared.record.Await.{Await}
use Rattle.wc_state.specs.declared.record.Checkpoint.{Checkpoint}
use Rattle.wc_state.specs.declared.record.JobPart.{JobPart}
use Rattle.wc_state.specs.declared.record.Part.{Part}
use Rattle.wc_state.specs.declared.record.Part.TheVariants as part
use Rattle.wc_state.specs.declared.record.ProcessKind.TheVariants as kind
use Rattle.wc_state.specs.declared.record.ProcessRecord.{ProcessRecord}
use Rattle.wc_state.specs.declared.record.Task.{Task}
use Rattle.wc_semantics.specs.Tables.{Label, Table}
use Rattle.wc_semantics.specs.declared.progress.Replayed.{Replayed}
use Rattle.wc_world.specs.World.{World}
use Rattle.wc_world.specs.declared.change.Change.{Change}
use Rattle.wc_world.specs.declared.change.Change.TheVariants as change
use Rattle.wc_semantics.specs.Rules.{Values}
use Rattle.wc_semantics.specs.declared.outcomes.Parsed.{Parsed}
use Rattle.wc_machine.specs.Advances.{Advanced, goes, submits, ends}
use Rattle.wc_machine.specs.Steps.{Call, node, plain}
use Rattle.wc_soundness.specs.Words.{arrow, tree}
use Rattle.wc_soundness.specs.Library.{library}

-- ---- texts

-- the key under which both jobs are
abbrev pub parts : List ℕ
parts = codes "parts"

-- the label of the first call
abbrev pub one : Label
one = codes "parts_1"

-- the label of the second call
abbrev pub two : Label
two = codes "parts_2"

-- the file out.txt with a digit and a line feed
abbrev pub printed : ℕ → List (List ℕ × List ℕ)
printed digit = (codes "out.txt", digit ∷ (10 ∷ [])) ∷ []

-- what the program of a job left: the digit 4 for the number 2, and 6 for 3
abbrev pub result : ℕ → JobResult
result digit = record { code = pos 0; files = printed digit }

-- ---- nodes and links

-- the nodes once the chain is submitted
abbrev pub submitted_nodes : List NodeKind
submitted_nodes = kept.Data (value.Int (pos 2)) ∷ (kept.Workflow ∷ [])

-- the nodes once both jobs are called
abbrev pub called_nodes : List NodeKind
called_nodes = kept.Data (value.Int (pos 2)) ∷ (kept.Workflow ∷ (kept.Calculation ∷ (kept.Data (value.Int (pos 3)) ∷ (kept.Calculation ∷ []))))

-- the nodes once the second job has ended
abbrev pub half_nodes : List NodeKind
half_nodes = called_nodes ++ kept.Data (value.Folder (printed 54)) ∷ (kept.Data (value.Int (pos 6)) ∷ [])

-- the nodes once both jobs have ended
abbrev pub full_nodes : List NodeKind
full_nodes = half_nodes ++ kept.Data (value.Folder (printed 52)) ∷ (kept.Data (value.Int (pos 4)) ∷ [])

-- the links once the chain is submitted
abbrev pub submitted_links : List Link
submitted_links = arrow 1 2 link.InputWork (codes "a") ∷ []

-- the links once both jobs are called
abbrev pub called_links : List Link
called_links =
    arrow 1 2 link.InputWork (codes "a")
    ∷ (arrow 1 3 link.InputCalc (codes "x") ∷ (arrow 2 3 link.CallCalc one ∷ (arrow 4 5 link.InputCalc (codes "x") ∷ (arrow 2 5 link.CallCalc two ∷ []))))

-- the links once the second job has ended
abbrev pub half_links : List Link
half_links = called_links ++ arrow 5 6 link.Create (codes "retrieved") ∷ (arrow 5 7 link.Create (codes "value") ∷ [])

-- the links once both jobs have ended
abbrev pub full_links : List Link
full_links = half_links ++ arrow 3 8 link.Create (codes "retrieved") ∷ (arrow 3 9 link.Create (codes "value") ∷ [])

-- the links once the chain has returned its outputs
abbrev pub returned_links : List Link
returned_links = full_links ++ arrow 2 9 link.Return (codes "first") ∷ (arrow 2 7 link.Return (codes "last") ∷ [])

-- ---- records

-- the record of the chain, in a state, with its fuel, the batches of its start and its end, and its part
abbrev pub fan_record : ProcessState → (fuel started ended : ℕ) → Part → ProcessRecord
fan_record s fuel started ended p = record {
  node = 2;
  kind = kind.Chain;
  definition = codes "fan";
  library = 1;
  depth = 1;
  label = [];
  caching = false;
  state = s;
  paused = false;
  cached_from = None;
  fuel = fuel;
  code = None;
  started = started;
  ended = ended;
  part = p;
}

-- a called job: its number and its label
abbrev pub Called : Type 0
Called = ℕ × Label

-- the record of a job
abbrev pub job_record : Called → ProcessState → Option ℤ → (started ended : ℕ) → Part → ProcessRecord
job_record c s code started ended p = record {
  node = c.0;
  kind = kind.Job;
  definition = codes "double";
  library = 1;
  depth = 2;
  label = c.1;
  caching = false;
  state = s;
  paused = false;
  cached_from = None;
  fuel = 0;
  code = code;
  started = started;
  ended = ended;
  part = p;
}

-- the number and the label of the first job
abbrev pub first_job : Called
first_job = (3, one)

-- the number and the label of the second job
abbrev pub second_job : Called
second_job = (5, two)

-- the record of a job that was just called
abbrev pub fresh : Called → ProcessRecord
fresh c = job_record c state.Created None 0 0 part.Fresh

-- how a job stands at a task
abbrev pub at_task : Task → JobPart
at_task t = record { task = t; fails = 0; due = 0 }

-- the record of a job at a task
abbrev pub waits : Called → ℕ → Task → ProcessRecord
waits c started t = job_record c state.Waiting None started 0 (part.Job (at_task t))

-- the record of a job that has ended
abbrev pub over : Called → (started ended : ℕ) → ProcessRecord
over c started ended = job_record c (state.Finished 0) (Some (pos 0)) started ended part.Over

-- ---- where the chain stands

-- what the chain awaits of a job: its key, and that it is put behind others
abbrev pub await : ℕ → Await
await pid = record { key = parts; append = true; pid = pid }

-- behind so many instructions
abbrev pub stands : ℕ → Pairs → List Await → List (Label × ℕ) → Checkpoint
stands next ctx awaiting outputs = record { frames = record { block = 0; next = next } ∷ []; ctx = ctx; awaiting = awaiting; calls = 2; outputs = outputs }

-- the checkpoint that awaits both jobs
abbrev pub both_awaited : Checkpoint
both_awaited = stands 1 [] (await 3 ∷ (await 5 ∷ [])) []

-- both children under the key, in the order of the calls
abbrev pub both_bound : Pairs
both_bound = (parts, held.Many (3 ∷ (5 ∷ []))) ∷ []

-- the outputs that the chain sets
abbrev pub outputs_set : List (Label × ℕ)
outputs_set = (codes "first", 9) ∷ ((codes "last", 7) ∷ [])

-- the record of the chain at first
abbrev pub fan_created : ProcessRecord
fan_created = fan_record state.Created 0 0 0 part.Fresh

-- the record of the chain that waits
abbrev pub fan_waits : ProcessRecord
fan_waits = fan_record state.Waiting 0 2 0 (part.Chain both_awaited)

-- each bound child counts 1
abbrev pub fan_bound : ProcessRecord
fan_bound = fan_record state.Running 2 2 0 (part.Chain (stands 1 both_bound [] []))

-- the record of the chain before its end
abbrev pub fan_done : ProcessRecord
fan_done = fan_record state.Running 2 2 0 (part.Chain (stands 2 both_bound [] outputs_set))

-- the record of the chain at its end
abbrev pub fan_ended : ProcessRecord
fan_ended = fan_record (state.Finished 0) 2 2 15 part.Over

-- ---- worlds

-- a world with these nodes, links and records
abbrev pub world : List NodeKind → List Link → List ProcessRecord → ℕ → World
world nodes links records batches = record { nodes = nodes; links = links; records = records; libraries = (library, []) ∷ []; batches = batches }

-- the world once the chain is submitted
abbrev pub created : World
created = world submitted_nodes submitted_links (fan_created ∷ []) 1

-- the same with caching on for the job
abbrev pub created_with_caching : World
created_with_caching = record {
  nodes = submitted_nodes;
  links = submitted_links;
  records = fan_created ∷ [];
  libraries = (library, codes "double" ∷ []) ∷ [];
  batches = 1;
}

-- both jobs are live
abbrev pub called : World
called = world called_nodes called_links (fan_waits ∷ (fresh first_job ∷ (fresh second_job ∷ []))) 2

-- the second job is at this task
abbrev pub second_at : Task → ℕ → World
second_at t batches = world called_nodes called_links (fan_waits ∷ (fresh first_job ∷ (waits second_job 3 t ∷ []))) batches

-- the second job has ended
abbrev pub half : World
half = world half_nodes half_links (fan_waits ∷ (fresh first_job ∷ (over second_job 3 7 ∷ []))) 7

-- the first job is at this task
abbrev pub first_at : Task → ℕ → World
first_at t batches = world half_nodes half_links (fan_waits ∷ (waits first_job 8 t ∷ (over second_job 3 7 ∷ []))) batches

-- the chain beside both jobs that have ended
abbrev pub both_over : ProcessRecord → List ProcessRecord
both_over r = r ∷ (over first_job 8 12 ∷ (over second_job 3 7 ∷ []))

-- both jobs have ended
abbrev pub ready : World
ready = world full_nodes full_links (both_over fan_waits) 12

-- the world once the jobs are bound
abbrev pub bound : World
bound = world full_nodes full_links (both_over fan_bound) 13

-- the world before the chain ends
abbrev pub done : World
done = world full_nodes full_links (both_over fan_done) 14

-- the world once the chain has ended
abbrev pub ended : World
ended = world full_nodes returned_links (both_over fan_ended) 15

-- ---- changes

-- the change by which the chain goes on
abbrev pub goes_on : ProcessState → ℕ → Part → Change
goes_on s fuel p = change.Set (record { pid = 2; state = s; paused = false; cached_from = 0; fuel = fuel; code = None; part = p })

-- a call, where caching is on or off for what it calls
abbrev pub makes_job : Bool → Label → Change
makes_job caching label = change.Process (record { kind = kind.Job; definition = codes "double"; library = 1; depth = 2; label = label; caching = caching })

-- the input of the chain
abbrev pub input : Values
input = (codes "a", value.Int (pos 2)) ∷ []

-- the changes of the submission
abbrev pub submission_changes : List Change
submission_changes =
    change.Library library []
    ∷ (change.Data (value.Int (pos 2))
    ∷ (change.Process (record { kind = kind.Chain; definition = codes "fan"; library = 1; depth = 1; label = []; caching = false })
    ∷ (change.Link (arrow 1 2 link.InputWork (codes "a")) ∷ [])))

-- the first call takes the node of the input, and the second a node of its own
abbrev pub call_changes : Bool → List Change
call_changes caching =
    makes_job caching one
    ∷ (change.Link (arrow 1 3 link.InputCalc (codes "x"))
    ∷ (change.Link (arrow 2 3 link.CallCalc one)
    ∷ (change.Data (value.Int (pos 3))
    ∷ (makes_job caching two
    ∷ (change.Link (arrow 4 5 link.InputCalc (codes "x"))
    ∷ (change.Link (arrow 2 5 link.CallCalc two) ∷ (goes_on state.Waiting 0 (part.Chain both_awaited) ∷ [])))))))

-- the changes by which a job goes to a task
abbrev pub to_task : ℕ → Task → List Change
to_task pid t =
    change.Set (record { pid = pid; state = state.Waiting; paused = false; cached_from = 0; fuel = 0; code = None; part = part.Job (at_task t) }) ∷ []

-- the folder, the number, and the end
abbrev pub job_ends : (pid next digit : ℕ) → ℤ → List Change
job_ends pid next digit n =
    change.Data (value.Folder (printed digit))
    ∷ (change.Link (arrow pid next link.Create (codes "retrieved"))
    ∷ (change.Data (value.Int n)
    ∷ (change.Link (record { source = pid; target = next + 1; link = link.Create; label = codes "value" })
    ∷ (change.Set (record { pid = pid; state = state.Finished 0; paused = false; cached_from = 0; fuel = 0; code = Some (pos 0); part = part.Over }) ∷ []))))

-- the changes that bind the jobs
abbrev pub bind_changes : List Change
bind_changes = goes_on state.Running 2 (part.Chain (stands 1 both_bound [] [])) ∷ []

-- the changes of the step behind
abbrev pub done_changes : List Change
done_changes = goes_on state.Running 2 (part.Chain (stands 2 both_bound [] outputs_set)) ∷ []

-- the changes of the end
abbrev pub end_changes : List Change
end_changes =
    change.Link (arrow 2 9 link.Return (codes "first"))
    ∷ (change.Link (arrow 2 7 link.Return (codes "last")) ∷ (goes_on (state.Finished 0) 2 part.Over ∷ []))

-- ---- trees

-- the tree of a job
abbrev pub job_tree : ℕ → ℤ → Tree
job_tree digit n =
    tree (codes "double") (state.Finished 0) ((codes "retrieved", value.Folder (printed digit)) ∷ ((codes "value", value.Int n) ∷ [])) []

-- the first job is created
abbrev pub half_tree : Tree
half_tree = tree (codes "fan") state.Waiting [] ((one, tree (codes "double") state.Created [] []) ∷ ((two, job_tree 54 (pos 6)) ∷ []))

-- the tree of the chain
abbrev pub fan_tree : Tree
fan_tree =
    tree (codes "fan") (state.Finished 0) ((codes "first", value.Int (pos 4)) ∷ ((codes "last", value.Int (pos 6)) ∷ []))
    ((one, job_tree 52 (pos 4)) ∷ ((two, job_tree 54 (pos 6)) ∷ []))

-- ---- requests

-- double is started with the digit, and leaves the file
abbrev pub request : ℕ → Request
request digit = record { program = codes "double"; args = (digit ∷ []) ∷ []; files = []; fetch = codes "out.txt" ∷ [] }

-- what a job comes to whose program left a digit that spells a number
abbrev pub job_outcome : ℕ → ℤ → Parsed
job_outcome digit n = record { state = state.Finished 0; outputs = (codes "retrieved", value.Folder (printed digit)) ∷ ((codes "value", value.Int n) ∷ []) }

-- ---- what the chain advances to

-- the input as the chain sees it
abbrev pub input_seen : List (List ℕ × NodeValue)
input_seen = (codes "a", record { node = 1; value = value.Int (pos 2) }) ∷ []

-- a child that has ended, with the nodes of its outputs
abbrev pub child_seen : (pid folder digit : ℕ) → ℤ → Child
child_seen pid folder digit n = record {
  node = pid;
  state = state.Finished 0;
  outputs =
      (codes "retrieved", record { node = folder; value = value.Folder (printed digit) })
      ∷ ((codes "value", record { node = folder + 1; value = value.Int n }) ∷ []);
}

-- the environment before the jobs are bound
abbrev pub env_before : Env
env_before = record { inputs = input_seen; ctx = [] }

-- the environment behind that
abbrev pub env_after : Env
env_after = record { inputs = input_seen; ctx = (parts, item.Many (child_seen 3 8 52 (pos 4) ∷ (child_seen 5 6 54 (pos 6) ∷ []))) ∷ [] }

-- the first call
abbrev pub first_call : Call
first_call = record { definition = codes "double"; label = one; key = parts; append = true; args = (codes "x", node (record { node = 1; value = value.Int (pos 2) })) ∷ [] }

-- the second call
abbrev pub second_call : Call
second_call = record { definition = codes "double"; label = two; key = parts; append = true; args = (codes "x", plain (value.Int (pos 3))) ∷ [] }

-- both calls
abbrev pub planned_calls : List Call
planned_calls = first_call ∷ (second_call ∷ [])

-- the advance that submits the calls
abbrev pub after_go : Advanced
after_go = submits (record { frames = record { block = 0; next = 1 } ∷ []; ctx = []; awaiting = []; calls = 0; outputs = [] }) planned_calls

-- the advance of the step behind
abbrev pub after_done : Advanced
after_done = goes (stands 2 both_bound [] outputs_set)

-- the advance that ends the chain
abbrev pub after_end : Advanced
after_end = ends (state.Finished 0) outputs_set

-- ---- what it means

-- a table has the results of both jobs under their labels
pub record HasBoth (table : Table) : Type 0 where
  pub first : table (one ∷ []) (request 50) ≡ Some (result 52)
  pub second : table (two ∷ []) (request 51) ≡ Some (result 54)

-- the tree, with what was asked for it
abbrev pub fan_replayed : Replayed
fan_replayed = record { tree = fan_tree; asked = (one ∷ [], request 50) ∷ ((two ∷ [], request 51) ∷ []) }
