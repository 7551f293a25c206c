-- Tables that agree with what a world records.
use Rattle.std.specs.Prelude.{◌≡◌, ℕ, [], Some}
use Rattle.wc_value.specs.declared.process.JobResult.{JobResult}
use Rattle.wc_value.specs.declared.process.Request.{Request}
use Rattle.wc_expression.specs.declared.outcome.Outcome.TheVariants.{Gives}
use Rattle.wc_state.specs.declared.record.ProcessRecord.{ProcessRecord}
use Rattle.wc_semantics.specs.Tables.{Path, Table}
use Rattle.wc_world.specs.World.{World}
use Rattle.wc_world.specs.Records.{find_record}
use Rattle.wc_machine.specs.Paths.{follow}
use Rattle.wc_machine.specs.Recorded.{recorded_request, HasResult}

-- A table agrees with a process: for each job with a recorded result that is the process or is reached from it by call links, it has that
-- result for the job's call path and request.
abbrev pub Agrees : Table → World → ℕ → Type 0
Agrees table w pid = (path : Path) (r : ProcessRecord) (q : Request) (result : JobResult)
    → follow w.links pid path ≡ Some r.node → find_record r.node w.records ≡ Some r → recorded_request w r ≡ Some (Gives q) → HasResult w r.node result
    → table path q ≡ Some result

-- a table has rows by request alone
abbrev pub IsPlain : Table → Type 0
IsPlain table = (path : Path) (q : Request) → table path q ≡ table [] q

-- A table agrees with a world: it is plain and agrees with each process.
abbrev pub AgreesWithWorld : Table → World → Type 0
AgreesWithWorld table w = IsPlain table × ((r : ProcessRecord) → find_record r.node w.records ≡ Some r → Agrees table w r.node)
