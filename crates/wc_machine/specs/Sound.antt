-- Sound worlds.
use Rattle.std.specs.Prelude.{◌≡◌, ◌≢◌, ◌⊎◌, ℕ, suc, ◌+◌, ◌<◌, ◌≤◌, ◌==◌, Bool, true, false, not, ◌&&◌, ◌||◌, if◌then◌else◌, List, [], ◌∷◌, All, Option, Some, None, length, map, drop}
use Rattle.std.specs.List.{list_any}
use Rattle.wc_value.specs.Ascending.{Ascends}
use Rattle.wc_value.specs.declared.process.ProcessState.TheVariants as state
use Rattle.wc_value.specs.declared.process.Request.{Request}
use Rattle.wc_value.specs.declared.process.Tree.{Tree}
use Rattle.wc_syntax.specs.Findings.{head_of}
use Rattle.wc_syntax.specs.declared.definition.Definition.{Definition}
use Rattle.wc_expression.specs.declared.outcome.Outcome.TheVariants.{Gives}
use Rattle.wc_graph.specs.Rules.{IsLinkCorrect}
use Rattle.wc_graph.specs.Walks.{IsAcyclic}
use Rattle.wc_graph.specs.declared.link.Link.{Link}
use Rattle.wc_graph.specs.declared.link.LinkType.{LinkType}
use Rattle.wc_graph.specs.declared.link.LinkType.TheVariants as link
use Rattle.wc_meaning.specs.Inputs.{bad_input}
use Rattle.wc_semantics.specs.Tables.{Table}
use Rattle.wc_semantics.specs.Run.{label}
use Rattle.wc_state.specs.declared.context.CtxRef.{CtxRef}
use Rattle.wc_state.specs.declared.context.CtxRef.TheVariants as held
use Rattle.wc_state.specs.declared.record.Await.{Await}
use Rattle.wc_state.specs.declared.record.Part.{Part}
use Rattle.wc_state.specs.declared.record.Part.TheVariants as part
use Rattle.wc_state.specs.declared.record.ProcessRecord.{ProcessRecord}
use Rattle.wc_world.specs.World.{World}
use Rattle.wc_world.specs.Records.{find_record, has_ended, has_called, is_output_of, is_input_of, calls}
use Rattle.wc_world.specs.Trees.{recorded_tree}
use Rattle.wc_world.specs.Consistent.{IsConsistent}
use Rattle.wc_machine.specs.Paths.{call_links, kills}
use Rattle.wc_machine.specs.Recorded.{its_definition, recorded_inputs, recorded_request}
use Rattle.wc_machine.specs.Created.{IsCreatedByInputs}
use Rattle.wc_machine.specs.Submissions.{IsKeptLibrary}
use Rattle.wc_machine.specs.Sources.{KeepsCacheRule}
use Rattle.wc_machine.specs.Agreement.{Agrees}
use Rattle.wc_machine.specs.Rest.{GivesTree, meant, is_awaited, bound_calls, IsOnTrack}

-- ---- links

-- whether a link is one of data provenance: an input of a calculation, or what it created
abbrev pub is_provenance : LinkType → Bool
is_provenance link.InputCalc = true
is_provenance link.InputWork = false
is_provenance link.Create = true
is_provenance link.Return = false
is_provenance link.CallCalc = false
is_provenance link.CallWork = false

-- data provenance leads from a lower number to a higher one
abbrev pub GoesUp : Link → Type 0
GoesUp l = is_provenance l.link ≡ true → l.source < l.target

-- ---- records

-- the definition is there and none of the recorded inputs is bad for it
abbrev pub TakesItsInputs : World → ProcessRecord → Option Definition → Type 0
TakesItsInputs w r None = ⊥
TakesItsInputs w r (Some d) = bad_input (head_of d).inputs (recorded_inputs w r.node) ≡ None

-- whether a part is a job's
abbrev pub is_job_part : Part → Bool
is_job_part part.Fresh = false
is_job_part (part.Chain c) = false
is_job_part (part.Job j) = true
is_job_part part.Over = false

-- no number stands twice
abbrev pub AllDiffer : List ℕ → Type 0
AllDiffer [] = Unit {0}
AllDiffer (n ∷ ns) = (list_any (λ m. m == n) ns ≡ false) × AllDiffer ns

-- the numbers of the processes that a part awaits
abbrev pub awaited_numbers : Part → List ℕ
awaited_numbers part.Fresh = []
awaited_numbers (part.Chain c) = map (λ a. a.pid) c.awaiting
awaited_numbers (part.Job j) = []
awaited_numbers part.Over = []

-- the outputs in a checkpoint ascend by label
abbrev pub OutputsAscend : Part → Type 0
OutputsAscend part.Fresh = Unit {0}
OutputsAscend (part.Chain c) = Ascends c.outputs
OutputsAscend (part.Job j) = Unit {0}
OutputsAscend part.Over = Unit {0}

-- A record beyond what changes must fit: its inputs are ports of its definition with values of their kinds, and the required ones are
-- there; a waiting job has a request; a process that hasn't ended has neither an exit code nor a source; one that is created hasn't
-- started; no checkpoint awaits a process twice; and the labels of its outputs ascend.
pub record IsFitting (w : World) (r : ProcessRecord) : Type 0 where
  pub inputs : TakesItsInputs w r (its_definition w r)
  pub request : is_job_part r.part ≡ true → (q : Request) × (recorded_request w r ≡ Some (Gives q))
  pub code : has_ended r.state ≡ false → r.code ≡ None
  pub source : has_ended r.state ≡ false → r.cached_from ≡ None
  pub started : r.state ≡ state.Created → r.started ≡ 0
  pub awaiting : AllDiffer (awaited_numbers r.part)
  pub outputs : OutputsAscend r.part

-- ---- calls

-- each call has a label of its own number, where the first has this one
abbrev pub AreNumbered : ℕ → List Link → Type 0
AreNumbered n [] = Unit {0}
AreNumbered n (l ∷ ls) = ((key : List ℕ) × (l.label ≡ label key n)) × AreNumbered (suc n) ls

-- a call link leads to the process
abbrev pub is_call_to : ℕ → Link → Bool
is_call_to pid l = calls l.link && (l.target == pid)

-- the caller of a process is one less deep, and runs a definition of the same library
abbrev pub IsCaller : World → ProcessRecord → ProcessRecord → Type 0
IsCaller w r caller = (find_record caller.node w.records ≡ Some caller) × (has_called w.links caller.node r.node ≡ true) × (r.depth ≡ suc caller.depth) × (r.library ≡ caller.library)

-- A process of depth 1 has no caller and the empty label, and any other has a caller. Its own calls are numbered from 1.
pub record IsPlaced (w : World) (r : ProcessRecord) : Type 0 where
  pub root : r.depth ≡ 1 → (list_any (is_call_to r.node) w.links ≡ false) × (r.label ≡ [])
  pub called : r.depth ≢ 1 → (caller : ProcessRecord) × IsCaller w r caller
  pub numbered : AreNumbered 1 (call_links w r.node)

-- What a live process has called is awaited by it or has ended, and what an ended one has called has ended.
abbrev pub CallsAreKept : World → ProcessRecord → Type 0
CallsAreKept w r = (q : ProcessRecord) → find_record q.node w.records ≡ Some q → has_called w.links r.node q.node ≡ true
    → (has_ended q.state ≡ true) ⊎ ((has_ended r.state ≡ false) × (is_awaited r.part q.node ≡ true))

-- the awaited processes are those that these links lead to, in the same order, each under its key and its number, the first of which is
-- this one
abbrev pub AreAwaited : ℕ → List Link → List Await → Type 0
AreAwaited n [] [] = Unit {0}
AreAwaited n [] (a ∷ rest) = ⊥
AreAwaited n (l ∷ ls) [] = ⊥
AreAwaited n (l ∷ ls) (a ∷ rest) = (l.target ≡ a.pid) × (l.label ≡ label a.key n) × AreAwaited (suc n) ls rest

-- What a chain awaits are the last of its calls, in their order, each called under the key that is to hold it.
abbrev pub AwaitsLastCalls : World → ProcessRecord → Part → Type 0
AwaitsLastCalls w r part.Fresh = Unit {0}
AwaitsLastCalls w r (part.Chain c) = AreAwaited (suc (bound_calls c)) (drop (bound_calls c) (call_links w r.node)) c.awaiting
AwaitsLastCalls w r (part.Job j) = Unit {0}
AwaitsLastCalls w r part.Over = Unit {0}

-- a process that this one has called, and that has ended
abbrev pub IsEndedCall : World → ProcessRecord → ℕ → Type 0
IsEndedCall w r pid = (has_called w.links r.node pid ≡ true) × ((q : ProcessRecord) × (find_record pid w.records ≡ Some q) × (has_ended q.state ≡ true))

-- the processes that a key holds are calls of the chain that have ended
abbrev pub HoldsEnded : World → ProcessRecord → CtxRef → Type 0
HoldsEnded w r (held.Plain v) = Unit {0}
HoldsEnded w r (held.One pid) = IsEndedCall w r pid
HoldsEnded w r (held.Many pids) = All (IsEndedCall w r) pids

-- an input node of the process, or an output node of an ended process that it has called
abbrev pub IsKnownNode : World → ProcessRecord → ℕ → Type 0
IsKnownNode w r id =
    (list_any (λ l. is_input_of r.node l && (l.source == id)) w.links ≡ true)
    ⊎ ((pid : ℕ) × IsEndedCall w r pid × (list_any (λ l. is_output_of pid l && (l.target == id)) w.links ≡ true))

-- what a checkpoint's context and outputs name is known: calls that have ended, and nodes
abbrev pub NamesKnown : World → ProcessRecord → Part → Type 0
NamesKnown w r part.Fresh = Unit {0}
NamesKnown w r (part.Chain c) = All (λ e. HoldsEnded w r e.1) c.ctx × All (λ o. IsKnownNode w r o.1) c.outputs
NamesKnown w r (part.Job j) = Unit {0}
NamesKnown w r part.Over = Unit {0}

-- ---- the meaning of what has ended

-- An ended process has, for each agreeing table, the tree that it means with the fuel that is kept of it and the recorded kills.
abbrev pub IsMeant : World → ProcessRecord → Type 0
IsMeant w r = (table : Table) → Agrees table w r.node
    → (t : Tree) × (recorded_tree w r.node ≡ Some t) × GivesTree (meant w r table (kills w r.node) r.fuel) t

-- ---- fuel

-- a live chain awaits the process
abbrev pub is_awaited_in : List ProcessRecord → ℕ → Bool
is_awaited_in rs pid = list_any (λ r. is_awaited r.part pid) rs

-- the kept fuel of the live processes, and of the ended ones that a live chain awaits, each with 1 added
abbrev pub fuel_in : List ProcessRecord → List ProcessRecord → ℕ
fuel_in all [] = 0
fuel_in all (r ∷ rs) = if not (has_ended r.state) || is_awaited_in all r.node then suc r.fuel + fuel_in all rs else fuel_in all rs

-- no more fuel is kept of a process than the most batches and nodes that a world can have together
abbrev pub KeepsFew : ProcessRecord → Type 0
KeepsFew r = r.fuel ≤ 4008000000

-- A sound world.
pub record IsSound (w : World) : Type 0 where
  pub consistent : IsConsistent w
  pub libraries : All (λ k. IsKeptLibrary k.0) w.libraries
  pub links : IsLinkCorrect w.nodes w.links
  pub acyclic : IsAcyclic w.links
  pub upward : All GoesUp w.links
  pub created : IsCreatedByInputs w
  pub sources : KeepsCacheRule w
  pub records : All (IsFitting w) w.records
  pub placed : All (IsPlaced w) w.records
  pub calls : All (CallsAreKept w) w.records
  pub awaits : All (λ r. AwaitsLastCalls w r r.part) w.records
  pub names : All (λ r. NamesKnown w r r.part) w.records
  pub live : All (λ r. has_ended r.state ≡ false → IsOnTrack w r) w.records
  pub ended : All (λ r. has_ended r.state ≡ true → IsMeant w r) w.records
  pub fuel : fuel_in w.records w.records ≤ w.batches + length w.nodes
  pub few : All KeepsFew w.records
