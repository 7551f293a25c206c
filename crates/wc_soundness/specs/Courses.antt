-- What a calculation comes to by its own definition.
use Rattle.std.specs.Prelude.{◌≡◌, ℕ, []}
use Rattle.wc_value.specs.declared.process.JobResult.{JobResult}
use Rattle.wc_value.specs.declared.process.Reason.{Reason}
use Rattle.wc_value.specs.declared.process.Request.{Request}
use Rattle.wc_syntax.specs.declared.definition.Function.{Function}
use Rattle.wc_syntax.specs.declared.definition.Job.{Job}
use Rattle.wc_syntax.specs.declared.definition.Definition.{Definition}
use Rattle.wc_syntax.specs.declared.definition.Definition.TheVariants as definition
use Rattle.wc_expression.specs.declared.outcome.Outcome.TheVariants.{Gives, Faults}
use Rattle.wc_semantics.specs.declared.outcomes.Parsed.{Parsed}
use Rattle.wc_semantics.specs.Outcomes.{excepted, calculated, parsed}
use Rattle.wc_semantics.specs.Requests.{request}
use Rattle.wc_semantics.specs.Rules.{Values}
use Rattle.wc_world.specs.World.{World}
use Rattle.wc_machine.specs.Recorded.{HasResult}

-- With these inputs the definition comes to this outcome: a function by its rules; a job by the recorded result of the process, or, where its
-- request is a reason, by that.
pub data ComesTo (w : World) (pid : ℕ) (inputs : Values) : Definition → Parsed → Type 0 where
  by_rules : (f : Function) → ComesTo w pid inputs (definition.Function f) (calculated f inputs)
  by_result : (j : Job) (q : Request) (result : JobResult) → request j inputs ≡ Gives q → HasResult w pid result
      → ComesTo w pid inputs (definition.Job j) (parsed j inputs result)
  by_reason : (j : Job) (reason : Reason) → request j inputs ≡ Faults reason → ComesTo w pid inputs (definition.Job j) (excepted reason [])
