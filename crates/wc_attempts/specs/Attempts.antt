-- What a restart chain comes to, in the terms of its job and its handlers.
use Rattle.std.specs.Prelude.{ℕ, zero, suc, Bool, true, false, not, ◌&&◌, ◌==◌, nat_lt, List, [], ◌∷◌, Option, Some, None, if◌then◌else◌}
use Rattle.std.specs.List.{list_any}
use Rattle.wc_value.specs.declared.process.JobResult.{JobResult}
use Rattle.wc_value.specs.declared.process.ProcessState.{ProcessState}
use Rattle.wc_value.specs.declared.process.ProcessState.TheVariants.{Finished, Excepted}
use Rattle.wc_value.specs.declared.process.Reason.TheVariants.{NoOutput}
use Rattle.wc_value.specs.declared.process.Request.{Request}
use Rattle.wc_syntax.specs.Findings.{is_among, port_names}
use Rattle.wc_syntax.specs.declared.definition.Port.{Port}
use Rattle.wc_syntax.specs.declared.definition.Function.{Function}
use Rattle.wc_syntax.specs.declared.definition.Job.{Job}
use Rattle.wc_expression.specs.declared.outcome.Outcome.{Outcome}
use Rattle.wc_expression.specs.declared.outcome.Outcome.TheVariants.{Gives, Faults}
use Rattle.wc_semantics.specs.declared.outcomes.Parsed.{Parsed}
use Rattle.wc_semantics.specs.Outcomes.{lacks, excepted, calculated, parsed}
use Rattle.wc_semantics.specs.Requests.{request}
use Rattle.wc_semantics.specs.Rules.{Values}
use Rattle.wc_semantics.specs.Tables.{row_of}
use Rattle.wc_handlers.specs.declared.spec.Handler.{Handler}
use Rattle.wc_handlers.specs.declared.spec.Remedy.{Remedy}
use Rattle.wc_handlers.specs.declared.spec.Remedy.TheVariants as remedy
use Rattle.wc_restart.specs.Ports.{required}

-- ---- values at ports

-- the values at these ports alone
abbrev pub at_ports : List Port → Values → Values
at_ports ports [] = []
at_ports ports (v ∷ vs) = if is_among v.0 (port_names ports) then v ∷ at_ports ports vs else at_ports ports vs

-- ---- which handler decides

-- whether a handler names a status
abbrev pub names_status : ℕ → Handler → Bool
names_status status h = list_any (λ n. status == n) h.statuses

-- the one of the higher priority
abbrev pub better : Option Handler → Handler → Option Handler
better None h = Some h
better (Some k) h = if nat_lt k.priority h.priority then Some h else Some k

-- the best of the one found so far, if there is one, and of these that pass a test
abbrev pub best_among : (Handler → Bool) → Option Handler → List Handler → Option Handler
best_among test found [] = found
best_among test found (h ∷ hs) = best_among test (if test h then better found h else found) hs

-- of the handlers that name a status the one of highest priority, if there is one
abbrev pub handler_for : ℕ → List Handler → Option Handler
handler_for status = best_among (names_status status) None

-- ---- attempts

-- a state with outputs, or the first request for which the table has no row
pub data Attempted : Type 0 where
  ends : Parsed → Attempted
  wants : Request → Attempted

-- an end with a status and outputs
abbrev pub finished : ℕ → Values → Attempted
finished n outs = ends (record { state = Finished n; outputs = outs })

-- what the attempts of a chain are made of
pub record Attempts : Type 0 where
  pub job : Job
  pub handlers : List Handler
  pub function : List ℕ → Option Function
  pub rows : List (Request × JobResult)

-- what the job comes to by the row of its request, or the request that has none
abbrev pub by_row : Attempts → Values → Request → Option JobResult → Attempted
by_row x v q None = wants q
by_row x v q (Some r) = ends (parsed x.job v r)

-- what the job comes to by its request, or the exception of its want
abbrev pub by_request : Attempts → Values → Outcome Request → Attempted
by_request x v (Faults r) = ends (excepted r [])
by_request x v (Gives q) = by_row x v q (row_of q x.rows)

-- what the job comes to for these inputs
abbrev pub tried : Attempts → Values → Attempted
tried x v = by_request x v (request x.job v)

-- the next attempt, with these inputs and whether the last one failed unhandled
abbrev pub Next : Type 0
Next = Values → Bool → Attempted

-- a second unhandled failure ends the chain
abbrev pub unhandled : Next → Values → Bool → Attempted
unhandled next v bad = if bad then finished 402 [] else next v true

-- Inputs that lack a port end the chain where there is a next attempt, whose call takes them.
abbrev pub goes_on_with : Next → (last : Bool) → Attempts → Values → Attempted
goes_on_with next last x u =
    if lacks (required x.job.head.inputs) u && not last then ends (record { state = Excepted NoOutput; outputs = [] }) else next u false

-- the outputs of a function are the next inputs
abbrev pub mended : Attempts → Values → Function → Values
mended x v f = at_ports (required x.job.head.inputs) (calculated f (at_ports f.head.inputs v)).outputs

-- what follows where the handler's function is there
abbrev pub by_function : Next → (last : Bool) → Attempts → Values → Bool → Option Function → Attempted
by_function next last x v bad None = unhandled next v bad
by_function next last x v bad (Some f) = goes_on_with next last x (mended x v f)

-- what follows a failure with a handler
abbrev pub by_remedy : Next → (last : Bool) → Attempts → Values → Bool → Remedy → Attempted
by_remedy next last x v bad (remedy.Abort status) = finished status []
by_remedy next last x v bad (remedy.Call name) = by_function next last x v bad (x.function name)

-- what follows a failure, by the handler that names its status: without one it is unhandled
abbrev pub handled : Next → (last : Bool) → Attempts → Values → Bool → Option Handler → Attempted
handled next last x v bad None = unhandled next v bad
handled next last x v bad (Some h) = by_remedy next last x v bad h.remedy

-- what follows an attempt, by the state of its job
abbrev pub by_state : Next → (last : Bool) → Attempts → Values → Bool → ProcessState → Values → Attempted
by_state next last x v bad (Finished zero) outs = finished 0 (at_ports (required x.job.head.outputs) outs)
by_state next last x v bad (Finished (suc n)) outs = handled next last x v bad (handler_for (suc n) x.handlers)
by_state next last x v bad s outs = unhandled next v bad

-- what follows an attempt, where its request had a row
abbrev pub after : Next → (last : Bool) → Attempts → Values → Bool → Attempted → Attempted
after next last x v bad (wants q) = wants q
after next last x v bad (ends p) = by_state next last x v bad p.state p.outputs

-- whether no attempt is left
abbrev pub is_last : ℕ → Bool
is_last zero = true
is_last (suc left) = false

-- what a chain comes to that has so many attempts left
abbrev pub attempt : (left : ℕ) → Attempts → Values → Bool → Attempted
attempt zero x v bad = finished 401 []
attempt (suc left) x v bad = after (attempt left x) (is_last left) x v bad (tried x v)
