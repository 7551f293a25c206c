-- Which jobs go on.
use Rattle.std.specs.Prelude.{◌≡◌, ◌≤◌, Option, Some, None}
use Rattle.wc_state.specs.declared.record.JobPart.{JobPart}
use Rattle.wc_state.specs.declared.record.Part.{Part}
use Rattle.wc_state.specs.declared.record.Part.TheVariants as part
use Rattle.wc_state.specs.declared.record.ProcessRecord.{ProcessRecord}
use Rattle.wc_world.specs.World.{World}
use Rattle.wc_world.specs.Records.{find_record}

-- the task of a job that waits
abbrev pub task_of : Part → Option JobPart
task_of part.Fresh = None
task_of (part.Chain c) = None
task_of (part.Job p) = Some p
task_of part.Over = None

-- a job of the world that waits for this task, which has failed at most four times in a row
pub record MayGoOn (w : World) (r : ProcessRecord) (p : JobPart) : Type 0 where
  pub found : find_record r.node w.records ≡ Some r
  pub waits : task_of r.part ≡ Some p
  pub few : p.fails ≤ 4
