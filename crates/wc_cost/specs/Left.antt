-- What is left of a world: how many turns its live processes take together, where each task is done and no outcome is taken over.
use Rattle.std.specs.Prelude.{◌≡◌, ℕ, suc, ◌+◌, List, [], ◌∷◌, Option, Some, None}
use Rattle.wc_value.specs.declared.process.JobResult.{JobResult}
use Rattle.wc_value.specs.declared.process.Request.{Request}
use Rattle.wc_syntax.specs.declared.definition.Chain.{Chain}
use Rattle.wc_syntax.specs.declared.definition.Definition.{Definition}
use Rattle.wc_syntax.specs.declared.definition.Definition.TheVariants as definition
use Rattle.wc_expression.specs.declared.outcome.Outcome.{Outcome}
use Rattle.wc_expression.specs.declared.outcome.Outcome.TheVariants.{Gives}
use Rattle.wc_semantics.specs.Tables.{Table}
use Rattle.wc_semantics.specs.declared.progress.Planned.{Planned}
use Rattle.wc_semantics.specs.declared.progress.Progress.{Progress}
use Rattle.wc_state.specs.declared.record.Checkpoint.{Checkpoint}
use Rattle.wc_state.specs.declared.record.Part.{Part}
use Rattle.wc_state.specs.declared.record.Part.TheVariants as part
use Rattle.wc_state.specs.declared.record.ProcessRecord.{ProcessRecord}
use Rattle.wc_state.specs.declared.record.Task.{Task}
use Rattle.wc_state.specs.declared.record.Task.TheVariants as task
use Rattle.wc_world.specs.World.{World}
use Rattle.wc_world.specs.Records.{library_at}
use Rattle.wc_machine.specs.Outlines.{blocks, left}
use Rattle.wc_machine.specs.Paths.{kills}
use Rattle.wc_machine.specs.Recorded.{its_definition, recorded_inputs, recorded_request}
use Rattle.wc_machine.specs.Rest.{awaited, levels_of, progress_of}
use Rattle.wc_cost.specs.Cost.{Costs, Prices, Tolls, bill, tolls}

-- the table that has these results by request alone, so `under` any label it is itself
abbrev pub by_request : (Request → Option JobResult) → Table
by_request results path = results

-- the tasks from this one on, each of which takes one turn
abbrev pub tasks_left : Task → ℕ
tasks_left task.Upload = 4
tasks_left task.Submit = 3
tasks_left task.Update = 2
tasks_left task.Retrieve = 1

module _ (results : Request → Option JobResult) (w : World) where
  -- what surrounds the run of a chain, with the kills that the world records at and below it
  abbrev pub its_tolls : ProcessRecord → List Definition → Chain → Tolls
  its_tolls r library k = tolls (levels_of r) library (by_request results) (kills w r.node) k.head.outputs

  -- A chain that awaits nothing owes the cost of the instructions that its frames leave. One that awaits children, which count by themselves,
  -- owes a turn to bind them, and what is left once they are bound.
  abbrev pub ChainOwes : ProcessRecord → Checkpoint → Option (List Definition) → Option Definition → Option (List Planned) → Option Progress → ℕ → Type 0
  ChainOwes r c (Some library) (Some (definition.Chain k)) (Some []) (Some e) n =
      Costs (its_tolls r library k) (left (blocks k.outline) c.frames) e n
  ChainOwes r c (Some library) (Some (definition.Chain k)) (Some (p ∷ ps)) (Some e) n =
      (b : ℕ) × (calls : ℕ) × (then_at : Progress) × (rest : ℕ) × (bill (its_tolls r library k) b (p ∷ ps) e ≡ Some (calls, then_at))
      × Costs (its_tolls r library k) (left (blocks k.outline) c.frames) then_at rest × (n ≡ suc rest)
  ChainOwes r c _ _ _ _ n = ⊥

  -- the task of a job with its request: those from this one on, where there is a result for the request
  abbrev pub JobOwes : Task → Option (Outcome Request) → ℕ → Type 0
  JobOwes t (Some (Gives q)) n = (x : JobResult) × (results q ≡ Some x) × (n ≡ tasks_left t)
  JobOwes t _ n = ⊥

  -- a process that is created owes what its definition costs
  abbrev pub FreshOwes : ProcessRecord → Option (List Definition) → ℕ → Type 0
  FreshOwes r None n = ⊥
  FreshOwes r (Some library) n = Prices (levels_of r) library (by_request results) (kills w r.node) r.definition (recorded_inputs w r.node) n

  -- what a process owes, by its part: one that hasn't begun its price, a job its tasks, a work chain the cost of what its frames leave, one that has ended
  -- nothing
  abbrev pub PartOwes : ProcessRecord → Part → ℕ → Type 0
  PartOwes r part.Fresh n = FreshOwes r (library_at w.libraries r.library) n
  PartOwes r (part.Chain c) n = ChainOwes r c (library_at w.libraries r.library) (its_definition w r) (awaited w c.awaiting) (progress_of w r c) n
  PartOwes r (part.Job j) n = JobOwes j.task (recorded_request w r) n
  PartOwes r part.Over n = n ≡ 0

  -- what processes owe together
  abbrev pub AllOwe : List ProcessRecord → ℕ → Type 0
  AllOwe [] n = n ≡ 0
  AllOwe (r ∷ rs) n = (a : ℕ) × (b : ℕ) × PartOwes r r.part a × AllOwe rs b × (n ≡ a + b)

  -- what is left of a world: what its processes owe together
  abbrev pub IsLeft : ℕ → Type 0
  IsLeft = AllOwe w.records
