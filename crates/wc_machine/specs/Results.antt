-- The recorded result of a process, found step by step, and tables of recorded results.
use Rattle.std.specs.Prelude.{◌≡◌, ℕ, ℤ, zero, suc, Bool, false, if◌then◌else◌, List, [], ◌∷◌, Option, Some, None, option_and_then}
use Rattle.wc_value.specs.declared.process.JobResult.{JobResult}
use Rattle.wc_value.specs.declared.process.Request.{Request}
use Rattle.wc_expression.specs.declared.outcome.Outcome.{Outcome}
use Rattle.wc_expression.specs.declared.outcome.Outcome.TheVariants.{Gives, Faults}
use Rattle.wc_semantics.specs.Meaning.{is_killed}
use Rattle.wc_semantics.specs.Tables.{Table, request_eq, or_else}
use Rattle.wc_state.specs.declared.record.ProcessKind.{ProcessKind}
use Rattle.wc_state.specs.declared.record.ProcessKind.TheVariants as kind
use Rattle.wc_state.specs.declared.record.ProcessRecord.{ProcessRecord}
use Rattle.wc_world.specs.World.{World}
use Rattle.wc_world.specs.Records.{find_record}
use Rattle.wc_machine.specs.Paths.{follow}
use Rattle.wc_machine.specs.Recorded.{Contents, recorded_request, result_with, retrieved_folder, HasResult}

-- from where a process has its result: from nowhere, from its own run, or from another process
pub data Origin : Type 0 where
  nowhere : Origin
  own : JobResult → Origin
  source : ℕ → Origin

-- a result of its own, where the folder that was brought back is there
abbrev pub with_folder : ℤ → Option Contents → Origin
with_folder code None = nowhere
with_folder code (Some files) = own (result_with code files)

-- a result that comes from a source, where there is one
abbrev pub from_source : Option ℕ → Origin
from_source None = nowhere
from_source (Some pid) = source pid

-- where a job's result comes from: its own where it has an exit code, else its source's
abbrev pub by_code : World → ProcessRecord → Option ℤ → Origin
by_code w r None = if is_killed r.state then nowhere else from_source r.cached_from
by_code w r (Some code) = with_folder code (retrieved_folder w r.node)

-- where a result comes from, by the kind of process: only jobs have one
abbrev pub by_kind : World → ProcessRecord → ProcessKind → Origin
by_kind w r kind.Function = nowhere
by_kind w r kind.Job = by_code w r r.code
by_kind w r kind.Chain = nowhere

-- where a result comes from, by the record, if there is one
abbrev pub by_record : World → Option ProcessRecord → Origin
by_record w None = nowhere
by_record w (Some r) = by_kind w r r.kind

-- where the recorded result of a process comes from: itself, the process whose outcome it took, or nowhere
abbrev pub origin : World → ℕ → Origin
origin w pid = by_record w (find_record pid w.records)

-- the result itself, by where it comes from
abbrev pub by_origin : (ℕ → Option JobResult) → Origin → Option JobResult
by_origin f nowhere = None
by_origin f (own result) = Some result
by_origin f (source pid) = f pid

-- the result that is found along so many sources
abbrev pub result_within : ℕ → World → ℕ → Option JobResult
result_within zero w pid = None
result_within (suc n) w pid = by_origin (result_within n w) (origin w pid)

-- The recorded result of a process. A source ended in an earlier batch, so there are fewer steps than batches.
unfoldable pub result_of : World → ℕ → Option JobResult
result_of w pid = result_within (suc w.batches) w pid

-- The table of a process: for each call path the recorded result of the process at its end, whatever is asked.
abbrev pub table_of : World → ℕ → Table
table_of w pid path q = option_and_then (result_of w) (follow w.links pid path)

-- ---- by request

-- the request of the process with this number
abbrev pub request_at : World → ℕ → Option (Outcome Request)
request_at w pid = option_and_then (recorded_request w) (find_record pid w.records)

-- whether a job makes this request
abbrev pub asks : Request → Option (Outcome Request) → Bool
asks q None = false
asks q (Some (Gives r)) = request_eq r q
asks q (Some (Faults reason)) = false

-- the result of the first of these processes that has asked this and has one
abbrev pub rows_among : (ℕ → Option (Outcome Request)) → (ℕ → Option JobResult) → List ℕ → Request → Option JobResult
rows_among asked given [] q = None
rows_among asked given (a ∷ rest) q = if asks q (asked a) then or_else (given a) (rows_among asked given rest q) else rows_among asked given rest q

-- the results that a world records, by request
abbrev pub rows_of : World → List ℕ → Request → Option JobResult
rows_of w = rows_among (request_at w) (result_of w)

-- jobs with equal requests have equal recorded results
abbrev pub HasResultsByRequest : World → Type 0
HasResultsByRequest w = (r s : ProcessRecord) → find_record r.node w.records ≡ Some r → find_record s.node w.records ≡ Some s → (q : Request) (x y : JobResult)
    → recorded_request w r ≡ Some (Gives q) → recorded_request w s ≡ Some (Gives q) → HasResult w r.node x → HasResult w s.node y → x ≡ y
