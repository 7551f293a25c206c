-- From where a process has its outcome and its result: from itself, or from the one whose outcome it took.
use Rattle.std.specs.Prelude.{◌≡◌, ℕ, ℤ, ◌+◌, ◌<◌, Bool, false, ◌||◌, if◌then◌else◌, List, [], length, slice_index, Option, Some, None, is_some, option_map}
use Rattle.wc_value.specs.declared.process.JobResult.{JobResult}
use Rattle.wc_value.specs.declared.process.Request.{Request}
use Rattle.wc_syntax.specs.declared.definition.Job.{Job}
use Rattle.wc_syntax.specs.declared.definition.Definition.{Definition}
use Rattle.wc_syntax.specs.declared.definition.Definition.TheVariants as definition
use Rattle.wc_expression.specs.declared.outcome.Outcome.{Outcome}
use Rattle.wc_expression.specs.declared.outcome.Outcome.TheVariants.{Gives, Faults}
use Rattle.wc_semantics.specs.declared.outcomes.Parsed.{Parsed}
use Rattle.wc_semantics.specs.Rules.{Values}
use Rattle.wc_semantics.specs.Requests.{request}
use Rattle.wc_semantics.specs.Outcomes.{excepted, calculated, parsed}
use Rattle.wc_semantics.specs.Meaning.{is_killed}
use Rattle.wc_state.specs.declared.record.ProcessKind.{ProcessKind}
use Rattle.wc_state.specs.declared.record.ProcessKind.TheVariants as kind
use Rattle.wc_state.specs.declared.record.ProcessRecord.{ProcessRecord}
use Rattle.wc_world.specs.World.{World}
use Rattle.wc_world.specs.Records.{find_record}
use Rattle.wc_machine.specs.Created.{killed_outcome}
use Rattle.wc_machine.specs.Recorded.{Contents, its_definition, recorded_inputs, recorded_outputs, retrieved_folder, result_with}
use Rattle.wc_verify.specs.Following.{AreLasts}

-- ---- givers

-- a number, or that of the source if there is one
abbrev pub number_or : ℕ → Option ℕ → ℕ
number_or own None = own
number_or own (Some source) = source

-- whether a job's exit code is kept
abbrev pub code_kept : ProcessKind → Option ℤ → Bool
code_kept kind.Function code = false
code_kept kind.Job code = is_some code
code_kept kind.Chain code = false

-- a job that keeps an exit code
abbrev pub keeps_code : ProcessRecord → Bool
keeps_code r = code_kept r.kind r.code

-- the process whose outcome is given for this one: its source, where it took another's outcome as a process may, or itself
abbrev pub giver : ProcessRecord → ℕ
giver r = if is_killed r.state || keeps_code r then r.node else number_or r.node r.cached_from

-- a source, where the process is a job
abbrev pub if_job : ProcessKind → Option ℕ → Option ℕ
if_job kind.Function source = None
if_job kind.Job source = source
if_job kind.Chain source = None

-- the process whose result a job has
abbrev pub result_giver : ProcessRecord → ℕ
result_giver r = if is_killed r.state then r.node else number_or r.node (if_job r.kind r.cached_from)

-- the process whose recorded result a job has: its source, where it keeps no exit code and wasn't killed, or itself
abbrev pub recorded_giver : ProcessRecord → ℕ
recorded_giver r = if is_killed r.state || keeps_code r then r.node else number_or r.node (if_job r.kind r.cached_from)

-- the same by the number of a process, and the number itself where it is none of a process
abbrev pub number_at : (ProcessRecord → ℕ) → ℕ → Option ProcessRecord → ℕ
number_at f pid None = pid
number_at f pid (Some r) = f r

-- what a function of records gives for a process: the number of the one that it names; the process itself where it has no record
abbrev pub giver_at : (ProcessRecord → ℕ) → World → ℕ → ℕ
giver_at f w pid = number_at f pid (find_record pid w.records)

-- for each number up to that of the last node the giver
pub record AreGivers (f : ProcessRecord → ℕ) (w : World) (table : List ℕ) : Type 0 where
  pub size : length table ≡ length w.nodes + 1
  pub givers : (n : ℕ) → n < length table → slice_index table n ≡ giver_at f w n

-- for each number the last of the givers, one after another
pub record AreLastGivers (f : ProcessRecord → ℕ) (w : World) (lasts : List ℕ) : Type 0 where
  pub table : List ℕ
  pub givers : AreGivers f w table
  pub ends : AreLasts table lasts

-- ---- what is given for a process that took no other's outcome

-- an outcome, where the job has a request
abbrev pub when_asked : Outcome Request → Parsed → Option Parsed
when_asked (Gives q) p = Some p
when_asked (Faults reason) p = None

-- the exception of a job that has no request
abbrev pub when_unasked : Outcome Request → Option Parsed
when_unasked (Gives q) = None
when_unasked (Faults reason) = Some (excepted reason [])

-- the outcome that a job's rules make of its code and files, where these are there
abbrev pub with_files : Job → Values → ℤ → Option Contents → Option Parsed
with_files j inputs code None = None
with_files j inputs code (Some files) = when_asked (request j inputs) (parsed j inputs (result_with code files))

-- the outcome that is given for a job: of its result, or of its want of a request
abbrev pub job_given : Job → Values → Option ℤ → Option Contents → Option Parsed
job_given j inputs None files = when_unasked (request j inputs)
job_given j inputs (Some code) files = with_files j inputs code files

-- the outcome that is given for a calculation by its definition
abbrev pub given_by : Option Definition → Values → Option ℤ → Option Contents → Option Parsed
given_by None inputs code files = None
given_by (Some (definition.Function f)) inputs code files = Some (calculated f inputs)
given_by (Some (definition.Job j)) inputs code files = job_given j inputs code files
given_by (Some (definition.Chain c)) inputs code files = None

-- an outcome, unless it came from a source
abbrev pub unless_sourced : Option ℕ → Option Parsed → Option Parsed
unless_sourced None p = p
unless_sourced (Some source) p = None

-- the outcome that is given for a process by what is recorded of it alone
abbrev pub given_alone : World → ProcessRecord → Option Parsed
given_alone w r =
    if is_killed r.state then (if keeps_code r then None else Some killed_outcome)
    else unless_sourced r.cached_from (given_by (its_definition w r) (recorded_inputs w r.node) r.code (retrieved_folder w r.node))

-- the state and the outputs of a process are these
abbrev pub HasOutcome : World → ProcessRecord → Option Parsed → Type 0
HasOutcome w r None = ⊥
HasOutcome w r (Some p) = (r.state ≡ p.state) × (recorded_outputs w r.node ≡ p.outputs)

-- ---- the own result of a job

-- a job's own result, where its code and its files are recorded
abbrev pub own_result_by : ProcessKind → Option ℤ → Option Contents → Option JobResult
own_result_by kind.Function code files = None
own_result_by kind.Job None files = None
own_result_by kind.Job (Some code) files = option_map (result_with code) files
own_result_by kind.Chain code files = None

-- the result of the job's own run
abbrev pub own_result : World → ProcessRecord → Option JobResult
own_result w r = own_result_by r.kind r.code (retrieved_folder w r.node)
