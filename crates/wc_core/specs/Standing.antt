-- How the processes of a world stand: whether some is live, and whether each live one is held up.
use Rattle.std.specs.Prelude.{◌≡◌, ℕ, zero, suc, Bool, true, false, not, ◌&&◌, ◌||◌, List, Option, Some, None}
use Rattle.std.specs.List.{list_any, list_all}
use Rattle.wc_state.specs.declared.record.Part.{Part}
use Rattle.wc_state.specs.declared.record.Part.TheVariants as part
use Rattle.wc_state.specs.declared.record.ProcessRecord.{ProcessRecord}
use Rattle.wc_world.specs.World.{World}
use Rattle.wc_world.specs.Records.{find_record, has_ended}
use Rattle.wc_machine.specs.Kills.{awaits_of}
use Rattle.wc_machine.specs.Readiness.{is_ready}
use Rattle.wc_core.specs.declared.standing.Standing.{Standing}
use Rattle.wc_core.specs.declared.standing.Standing.TheVariants.{AllEnded, Resting, Going}

-- some process is live
abbrev pub is_any_live : World → Bool
is_any_live w = list_any (λ r. not (has_ended r.state)) w.records

-- it is there, is live and is held so
abbrev pub is_live_and : (ProcessRecord → Bool) → Option ProcessRecord → Bool
is_live_and held None = false
is_live_and held (Some r) = not (has_ended r.state) && held r

-- The process is paused, or is a chain that awaits, through at most so many levels of calls, a live one that is.
abbrev pub is_held_up : ℕ → List ProcessRecord → ProcessRecord → Bool
is_held_up zero rs r = r.paused
is_held_up (suc levels) rs r = r.paused || list_any (λ a. is_live_and (is_held_up levels rs) (find_record a.pid rs)) (awaits_of r.part)

-- Each live process is held up. Depths go from 1 to 16.
abbrev pub is_resting : World → Bool
is_resting w = list_all (λ r. has_ended r.state || is_held_up 16 w.records r) w.records

-- the moment that a process waits for, 0 where it waits for none
abbrev pub moment_in : Part → ℕ
moment_in part.Fresh = 0
moment_in (part.Chain c) = 0
moment_in (part.Job j) = j.due
moment_in part.Over = 0

-- A process of the world is ready at the moment that it waits for.
pub record HasFree (w : World) : Type 0 where
  pub process : ProcessRecord
  pub found : find_record process.node w.records ≡ Some process
  pub ready : is_ready w (moment_in process.part) process ≡ true

-- No process is live; or else each live one is held up; or else some process is ready, or will be at some moment.
abbrev pub StandsAs : World → Standing → Type 0
StandsAs w AllEnded = is_any_live w ≡ false
StandsAs w Resting = (is_any_live w ≡ true) × (is_resting w ≡ true)
StandsAs w Going = (is_any_live w ≡ true) × (is_resting w ≡ false) × HasFree w
