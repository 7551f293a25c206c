-- What it takes that a `run` ends every process, and how it ends then.
use Rattle.std.specs.Prelude.{◌≡◌, ℕ, false, IsTrue, List, Option}
use Rattle.wc_disk.specs.declared.disk.Disk as disk
use Rattle.wc_io.specs.declared.pacer.Pacer as pacer
use Rattle.wc_transport.specs.declared.transport.Transport as transport
use Rattle.wc_world.specs.World.{World}
use Rattle.wc_store.specs.Held.{a_world}
use Rattle.wc_drill.specs.Enough.{HasEnough}
use Rattle.wc_drill.specs.Runner.Standing.{is_any_live}
use Rattle.wc_cli.specs.Words.{command_of}
use Rattle.wc_plan.specs.Plans.{Plans}
use Rattle.wc_plan.specs.declared.deed.Deed.TheVariants as deed
use Rattle.wc_plan.specs.declared.deed.Plan.{Plan}
use Rattle.wc_plan.specs.declared.deed.Plan.TheVariants as plan
use Rattle.wc_plan.specs.declared.deed.RunOptions.{RunOptions}
use Rattle.wc_plan.specs.declared.deed.Work.TheVariants as work
use Rattle.wc_plan.specs.declared.status.Status.{Status}
use Rattle.wc_plan.specs.declared.status.Status.TheVariants as status
use Rattle.wc_act.specs.StoreDeeds.{Hold, Images}

-- The words plan this run and nothing else, and both disks tell their bytes. They read as images that hold a world, for which the run's turns are
-- enough, with the transport and the clock as they are.
pub record HasEnoughToRun {D T P : Type 0} (g : disk.Ghosts D) (h : transport.Ghosts T) (k : pacer.Ghosts P) (told : Option (List ℕ → Option (List ℕ)))
    (words : List (List ℕ)) (one two : D) (old : T) (clock : P) : Type 0 where
  pub options : RunOptions
  pub plans : (p : Plan) → Plans told (command_of words) p → p ≡ plan.On (deed.Work (work.Run options))
  pub tells_one : IsTrue (g.tells one)
  pub tells_two : IsTrue (g.tells two)
  pub world : World
  pub held : Hold (g.seen one, g.seen two) (a_world world)
  pub enough : HasEnough h k old clock world options.turns

-- No process is live in the world that the images hold; or the store would be too full, memory ran out, or the shelf, a disk or the sink failed.
abbrev pub EndsOrBreaks : Images → Status → Type 0
EndsOrBreaks after status.Ok = (v : World) × Hold after (a_world v) × (is_any_live v ≡ false)
EndsOrBreaks after (status.Refused c) = ⊥
EndsOrBreaks after status.OutOfMemory = Unit {0}
EndsOrBreaks after status.Spent = ⊥
EndsOrBreaks after status.Resting = ⊥
EndsOrBreaks after status.DiskFault = Unit {0}
EndsOrBreaks after (status.Damaged disk at found) = ⊥
EndsOrBreaks after status.ReadFault = Unit {0}
EndsOrBreaks after status.WriteFault = Unit {0}
EndsOrBreaks after (status.Full what count limit) = Unit {0}
EndsOrBreaks after (status.Unsound fault) = ⊥
