-- What a world records of a calculation: its inputs, outputs, request and result.
use Rattle.std.specs.Prelude.{◌≡◌, ◌≢◌, ℕ, ℤ, codes, List, Option, Some, None, option_and_then}
use Rattle.wc_value.specs.Ascending.{lookup}
use Rattle.wc_value.specs.declared.process.JobResult.{JobResult}
use Rattle.wc_value.specs.declared.process.ProcessState.TheVariants.{Killed}
use Rattle.wc_value.specs.declared.process.Request.{Request}
use Rattle.wc_value.specs.declared.value.Value.{Value, out-Value}
use Rattle.wc_value.specs.declared.value.Value.TheOpen.{Value-F}
use Rattle.wc_syntax.specs.declared.definition.Definition.{Definition}
use Rattle.wc_syntax.specs.declared.definition.Definition.TheVariants as definition
use Rattle.wc_expression.specs.declared.outcome.Outcome.{Outcome}
use Rattle.wc_semantics.specs.Rules.{Values}
use Rattle.wc_semantics.specs.Requests.{request}
use Rattle.wc_state.specs.declared.record.ProcessKind.TheVariants as kind
use Rattle.wc_state.specs.declared.record.ProcessRecord.{ProcessRecord}
use Rattle.wc_world.specs.World.{World}
use Rattle.wc_world.specs.Records.{find_record}
use Rattle.wc_world.specs.Trees.{outputs_of, values_alone}
pub use Rattle.wc_world.specs.Keys.{its_definition, recorded_inputs}

-- the values of its outputs, by label
abbrev pub recorded_outputs : World → ℕ → Values
recorded_outputs w pid = values_alone (outputs_of w pid)

-- files by name
abbrev pub Contents : Type 0
Contents = List (List ℕ × List ℕ)

-- the files of a value that is a folder, seen one level deep
abbrev pub folder_seen : Value-F Value → Option Contents
folder_seen (Value-F.Int n) = None
folder_seen (Value-F.Bool b) = None
folder_seen (Value-F.Text t) = None
folder_seen (Value-F.List vs) = None
folder_seen (Value-F.Dict ps) = None
folder_seen (Value-F.Folder fs) = Some fs

-- the files of a value that is a folder
abbrev pub folder_of : Value → Option Contents
folder_of v = folder_seen (out-Value v)

-- the folder that a job brought back
abbrev pub retrieved_folder : World → ℕ → Option Contents
retrieved_folder w pid = option_and_then folder_of (lookup (codes "retrieved") (recorded_outputs w pid))

-- the result of a job with this exit code and these files
abbrev pub result_with : ℤ → Contents → JobResult
result_with code files = record { code = code; files = files }

-- the request of a job
abbrev pub request_by : Option Definition → Values → Option (Outcome Request)
request_by None inputs = None
request_by (Some (definition.Function f)) inputs = None
request_by (Some (definition.Job j)) inputs = Some (request j inputs)
request_by (Some (definition.Chain c)) inputs = None

-- the request that a job's definition makes of its recorded inputs
abbrev pub recorded_request : World → ProcessRecord → Option (Outcome Request)
recorded_request w r = request_by (its_definition w r) (recorded_inputs w r.node)

-- A job has this recorded result: the exit code that is kept of it with the folder that it brought back, or that of the job from which
-- it took its outcome.
pub data HasResult (w : World) : ℕ → JobResult → Type 0 where
  own : (r : ProcessRecord) (code : ℤ) (files : Contents) → find_record r.node w.records ≡ Some r → r.kind ≡ kind.Job → r.code ≡ Some code
      → retrieved_folder w r.node ≡ Some files → HasResult w r.node (result_with code files)
  cached : (r : ProcessRecord) (source : ℕ) (result : JobResult) → find_record r.node w.records ≡ Some r → r.kind ≡ kind.Job → r.state ≢ Killed
      → r.cached_from ≡ Some source → HasResult w source result → HasResult w r.node result
