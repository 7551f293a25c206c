-- What the replay of a process asks: each job below it with a recorded result, by its call path, for its request.
use Rattle.std.specs.Prelude.{ℕ, zero, suc, if◌then◌else◌, List, [], ◌∷◌, ◌++◌, Option, Some, None, map}
use Rattle.wc_value.specs.declared.process.JobResult.{JobResult}
use Rattle.wc_value.specs.declared.process.Request.{Request}
use Rattle.wc_graph.specs.declared.link.Link.{Link}
use Rattle.wc_expression.specs.declared.outcome.Outcome.{Outcome}
use Rattle.wc_expression.specs.declared.outcome.Outcome.TheVariants.{Gives, Faults}
use Rattle.wc_state.specs.declared.record.ProcessRecord.{ProcessRecord}
use Rattle.wc_semantics.specs.Meaning.{from_caller}
use Rattle.wc_semantics.specs.Tables.{Path}
use Rattle.wc_world.specs.World.{World}
use Rattle.wc_world.specs.Records.{find_record, is_call_from}
use Rattle.wc_machine.specs.Recorded.{recorded_request}
use Rattle.wc_machine.specs.Results.{result_of}

-- requests by the call path of the job that makes them
abbrev pub Asks : Type 0
Asks = List (Path × Request)

-- a request that was answered, by the job itself
abbrev pub answered : Option (Outcome Request) → Option JobResult → Asks
answered None x = []
answered (Some (Faults reason)) x = []
answered (Some (Gives q)) None = []
answered (Some (Gives q)) (Some x) = ([], q) ∷ []

-- what was asked below a process, by its calls in their order
abbrev pub asked_by_calls : (ℕ → Asks) → ℕ → List Link → Asks
asked_by_calls asks pid [] = []
asked_by_calls asks pid (l ∷ ls) = if is_call_from pid l then map (from_caller l.label) (asks l.target) ++ asked_by_calls asks pid ls else asked_by_calls asks pid ls

-- the requests with recorded results of a process and of what it called
abbrev pub asked_at : World → (ℕ → Asks) → Option ProcessRecord → Asks
asked_at w asks None = []
asked_at w asks (Some r) = answered (recorded_request w r) (result_of w r.node) ++ asked_by_calls asks r.node w.links

-- The jobs with a recorded result that are the process or are reached from it by call links, by call path and request, each call before the
-- next one, where calls nest in at most so many levels.
abbrev pub asks_within : ℕ → World → ℕ → Asks
asks_within zero w pid = []
asks_within (suc levels) w pid = asked_at w (asks_within levels w) (find_record pid w.records)

-- Depths go from 1 to 16, and a call goes one deeper.
abbrev pub asks_of : World → ℕ → Asks
asks_of = asks_within 16
