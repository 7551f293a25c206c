-- Exit codes that are kept of jobs, and the results that they are of.
use Rattle.std.specs.Prelude.{◌≡◌, ◌⊎◌, ℕ, ℤ, Option, Some, None}
use Rattle.wc_value.specs.declared.process.JobResult.{JobResult}
use Rattle.wc_value.specs.declared.process.Request.{Request}
use Rattle.wc_expression.specs.declared.outcome.Outcome.TheVariants.{Gives}
use Rattle.wc_state.specs.declared.record.ProcessRecord.{ProcessRecord}
use Rattle.wc_world.specs.World.{World}
use Rattle.wc_world.specs.Accepted.{IsReached}
use Rattle.wc_world.specs.Records.{find_record}
use Rattle.wc_machine.specs.Recorded.{HasResult, recorded_request}
use Rattle.wc_machine.specs.Sound.{IsSound}
use Rattle.wc_runner.specs.Outside.{Outside}
use Rattle.wc_runner.specs.Trips.{Turns}

-- the exit code that is kept of a process, if it is there
abbrev pub code_of : Option ProcessRecord → Option ℤ
code_of None = None
code_of (Some r) = r.code

-- The recorded result of the process with this number, whose exit code this is, is one that the outside brings for its request.
pub record IsBrought (o : Outside) (w : World) (pid : ℕ) (code : ℤ) : Type 0 where
  pub process : ProcessRecord
  pub found : find_record pid w.records ≡ Some process
  pub request : Request
  pub asks : recorded_request w process ≡ Some (Gives request)
  pub result : JobResult
  pub has : HasResult w pid result
  pub is_code : result.code ≡ code
  pub brings : o.brings request result

-- each exit code that is kept in the later world was kept in the earlier one, or is that of a result that the outside brings for the job
abbrev pub AreBrought : Outside → World → World → Type 0
AreBrought o w v = (pid : ℕ) (code : ℤ) → code_of (find_record pid v.records) ≡ Some code
    → (code_of (find_record pid w.records) ≡ Some code) ⊎ IsBrought o v pid code

-- so it is where turns are taken in a sound world
abbrev pub TurnsBringCodes : Outside → Type 0
TurnsBringCodes o = (n m : ℕ) (w v : World) → IsReached w → IsSound w → Turns o n m w v → AreBrought o w v
