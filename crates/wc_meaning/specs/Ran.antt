-- What the rules of a definition give.
use Rattle.std.specs.Prelude.{Option, Some, None}
use Rattle.wc_value.specs.declared.process.JobResult.{JobResult}
use Rattle.wc_syntax.specs.declared.definition.Definition.{Definition}
use Rattle.wc_syntax.specs.declared.definition.Definition.TheVariants as definition
use Rattle.wc_semantics.specs.declared.outcomes.Parsed.{Parsed}
use Rattle.wc_semantics.specs.Rules.{Values}
use Rattle.wc_semantics.specs.Outcomes.{calculated, parsed}

-- a function's rules for its inputs, or those of a job's `parse` part with its result, and nothing else
abbrev pub ran : Option Definition → Values → Option JobResult → Option Parsed
ran (Some (definition.Function f)) inputs None = Some (calculated f inputs)
ran (Some (definition.Job j)) inputs (Some r) = Some (parsed j inputs r)
ran _ inputs result = None
