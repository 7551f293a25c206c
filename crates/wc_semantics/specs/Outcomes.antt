-- The outcome of a calculation: the state and the outputs that it has for its inputs.
use Rattle.std.specs.Prelude.{ℕ, Bool, true, false, not, codes, ◌&&◌, ◌||◌, ◌==◌, if◌then◌else◌, List, [], ◌∷◌, is_none}
use Rattle.wc_value.specs.Ascending.{lookup}
use Rattle.wc_value.specs.declared.process.JobResult.{JobResult}
use Rattle.wc_value.specs.declared.process.ProcessState.TheVariants.{Finished, Excepted}
use Rattle.wc_value.specs.declared.process.Reason.{Reason}
use Rattle.wc_value.specs.declared.process.Request.{Request}
use Rattle.wc_value.specs.declared.value.Value.TheVariants as value
use Rattle.wc_syntax.specs.declared.definition.Function.{Function}
use Rattle.wc_syntax.specs.declared.definition.Job.{Job}
use Rattle.wc_syntax.specs.declared.definition.Port.{Port}
use Rattle.wc_state.specs.declared.environment.Env.{Env}
use Rattle.wc_expression.specs.declared.outcome.Outcome.{Outcome}
use Rattle.wc_expression.specs.declared.outcome.Outcome.TheVariants.{Gives, Faults}
use Rattle.wc_semantics.specs.declared.outcomes.Parsed.{Parsed}
use Rattle.wc_semantics.specs.Rules.{Values, End, env_of, bound, run_rules}
use Rattle.wc_semantics.specs.Requests.{request}

-- a required port has no output
abbrev pub lacks : List Port → Values → Bool
lacks [] outputs = false
lacks (p ∷ ps) outputs = (not p.optional && is_none (lookup p.name.text outputs)) || lacks ps outputs

-- a status of 0 is 11 where a required output is missing
abbrev pub final_status : List Port → End → ℕ
final_status ports end = if (end.0 == 0) && lacks ports end.1 then 11 else end.0

-- the outcome of an exception for a reason, with the outputs that were set
abbrev pub excepted : Reason → Values → Parsed
excepted r outputs = record { state = Excepted r; outputs = outputs }

-- what the end of the rules makes of a calculation, which has only the outputs `kept` where it excepts
abbrev pub concluded : List Port → Values → Outcome End → Parsed
concluded ports kept (Gives end) = record { state = Finished (final_status ports end); outputs = end.1 }
concluded ports kept (Faults r) = excepted r kept

-- a function that excepts has no outputs
abbrev pub calculated : Function → Values → Parsed
calculated f inputs = concluded f.head.outputs [] (run_rules f.head.outputs f.rules (env_of inputs) [])

-- the folder that a job brings back is always among its outputs
abbrev pub retrieved : JobResult → Values
retrieved r = (codes "retrieved", value.Folder r.files) ∷ []

-- the rules of a job's `parse` part read its inputs, the folder and the exit code
abbrev pub parse_env : Values → JobResult → Env
parse_env inputs r = bound (codes "code") (value.Int r.code) (bound (codes "retrieved") (value.Folder r.files) (env_of inputs))

-- what the rules of a job's `parse` part make of its result; a job that excepts in them has the folder alone
abbrev pub parsed : Job → Values → JobResult → Parsed
parsed j inputs r = concluded j.head.outputs (retrieved r) (run_rules j.head.outputs j.parse (parse_env inputs r) (retrieved r))

-- a job whose request is a reason excepts with it, and has no outputs
abbrev pub answered : Outcome Request → Parsed → Parsed
answered (Gives q) p = p
answered (Faults r) p = excepted r []

-- the outcome of a job with a result
abbrev pub job_outcome : Job → Values → JobResult → Parsed
job_outcome j inputs r = answered (request j inputs) (parsed j inputs r)
