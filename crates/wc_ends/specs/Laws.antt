-- With enough turns a run ends every process.
use Rattle.std.specs.Prelude.{◌≡◌, ℕ}
use Rattle.wc_io.specs.declared.pacer.Pacer as pacer
use Rattle.wc_state.specs.declared.record.Limits.{Limits}
use Rattle.wc_transport.specs.declared.transport.Transport as transport
use Rattle.wc_world.specs.Accepted.{IsReached}
use Rattle.wc_world.specs.World.{World}
use Rattle.wc_runner.specs.Outside.{in_run}
use Rattle.wc_runner.specs.Runs.{EndsAs}
use Rattle.wc_runner.specs.Trails.{Completes}
use Rattle.wc_runner.specs.declared.runs.RunEnd.{RunEnd}
use Rattle.wc_runner.specs.declared.runs.RunEnd.TheVariants.{AllEnded}
use Rattle.wc_ends.specs.Enough.{HasEnough}

-- A run that completes its trail, and ends as its turns and rests tell, leaves no live process, where it was given enough turns.
abbrev pub EnoughTurnsEnd : {T P : Type 0} → transport.Ghosts T → pacer.Ghosts P → Type 0
EnoughTurnsEnd {T} {P} h k = (limits : Limits) (turns : ℕ) (a b : T) (p q : P) (w v : World) (end : RunEnd) (old new : ℕ) → IsReached w
    → HasEnough h k a p w turns → Completes h k limits turns a p w end b q v → EndsAs (in_run h k limits a b q) turns w v old new end → end ≡ AllEnded
