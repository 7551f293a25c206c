-- Created results have one creator, whose inputs give them.
use Rattle.std.specs.Prelude.{◌≡◌, ◌≢◌, ℕ, ℤ, true, false, [], All, Some, None, slice_get}
use Rattle.wc_value.specs.declared.process.ProcessState.TheVariants.{Killed}
use Rattle.wc_value.specs.declared.process.Reason.{Reason}
use Rattle.wc_value.specs.declared.process.Request.{Request}
use Rattle.wc_syntax.specs.declared.definition.Function.{Function}
use Rattle.wc_syntax.specs.declared.definition.Job.{Job}
use Rattle.wc_syntax.specs.declared.definition.Definition.TheVariants as definition
use Rattle.wc_graph.specs.declared.link.Link.{Link}
use Rattle.wc_graph.specs.declared.link.LinkType.TheVariants.{Create}
use Rattle.wc_expression.specs.declared.outcome.Outcome.TheVariants.{Gives, Faults}
use Rattle.wc_semantics.specs.declared.outcomes.Parsed.{Parsed}
use Rattle.wc_semantics.specs.Requests.{request}
use Rattle.wc_semantics.specs.Outcomes.{excepted, calculated, parsed}
use Rattle.wc_state.specs.declared.record.ProcessKind.TheVariants as kind
use Rattle.wc_state.specs.declared.record.ProcessRecord.{ProcessRecord}
use Rattle.wc_world.specs.World.{World}
use Rattle.wc_world.specs.Records.{find_record, has_ended, is_calculation}
use Rattle.wc_world.specs.Fits.{has_output}
use Rattle.wc_machine.specs.Recorded.{Contents, its_definition, recorded_inputs, recorded_outputs, retrieved_folder, result_with}

-- the outcome of a killed process: no output
abbrev pub killed_outcome : Parsed
killed_outcome = record { state = Killed; outputs = [] }

-- a job that was killed, or that took another's outcome, has no exit code
abbrev pub KeepsNoCode : ProcessRecord → Type 0
KeepsNoCode r = r.kind ≡ kind.Job → r.code ≡ None

-- What is given for an ended calculation: a state with outputs. A killed one is killed with none. One that took another's outcome has
-- what is given for that one. A function has what its rules give for its recorded inputs; a job what its rules make of the result whose
-- exit code is kept and whose files are the folder that it brought back; and a job whose request is a reason excepts with it.
pub data GivenFor (w : World) : ℕ → Parsed → Type 0 where
  killed : (r : ProcessRecord) → find_record r.node w.records ≡ Some r → r.state ≡ Killed → KeepsNoCode r → GivenFor w r.node killed_outcome
  cached : (r : ProcessRecord) (source : ℕ) (p : Parsed) → find_record r.node w.records ≡ Some r → r.state ≢ Killed → KeepsNoCode r
      → r.cached_from ≡ Some source → GivenFor w source p → GivenFor w r.node p
  function : (r : ProcessRecord) (f : Function) → find_record r.node w.records ≡ Some r → r.state ≢ Killed → r.cached_from ≡ None
      → its_definition w r ≡ Some (definition.Function f) → GivenFor w r.node (calculated f (recorded_inputs w r.node))
  job : (r : ProcessRecord) (j : Job) (q : Request) (code : ℤ) (files : Contents) → find_record r.node w.records ≡ Some r → r.state ≢ Killed
      → r.cached_from ≡ None → its_definition w r ≡ Some (definition.Job j) → r.code ≡ Some code → retrieved_folder w r.node ≡ Some files
      → request j (recorded_inputs w r.node) ≡ Gives q → GivenFor w r.node (parsed j (recorded_inputs w r.node) (result_with code files))
  no_request : (r : ProcessRecord) (j : Job) (reason : Reason) → find_record r.node w.records ≡ Some r → r.state ≢ Killed → r.cached_from ≡ None
      → its_definition w r ≡ Some (definition.Job j) → r.code ≡ None → request j (recorded_inputs w r.node) ≡ Faults reason
      → GivenFor w r.node (excepted reason [])

-- the state and the outputs of an ended calculation, by label and value, are those given for it
abbrev pub IsGiven : World → ProcessRecord → Type 0
IsGiven w r = (p : Parsed) × GivenFor w r.node p × (r.state ≡ p.state) × (recorded_outputs w r.node ≡ p.outputs)

-- Each created result has one creator, a calculation that hasn't ended has created nothing, and one that has ended is as its inputs give it.
pub record IsCreatedByInputs (w : World) : Type 0 where
  pub one_creator : (i j : ℕ) (l m : Link) → slice_get w.links i ≡ Some l → slice_get w.links j ≡ Some m → l.link ≡ Create → m.link ≡ Create
      → l.target ≡ m.target → i ≡ j
  pub live : All (λ r. is_calculation r.kind ≡ true → has_ended r.state ≡ false → has_output r.node w.links ≡ false) w.records
  pub ended : All (λ r. is_calculation r.kind ≡ true → has_ended r.state ≡ true → IsGiven w r) w.records
