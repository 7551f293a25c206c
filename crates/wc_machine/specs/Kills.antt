-- What a kill does.
use Rattle.std.specs.Prelude.{ℕ, zero, suc, ◌+◌, false, if◌then◌else◌, List, [], ◌∷◌, ◌++◌, flat_map, Option, Some, None}
use Rattle.wc_value.specs.declared.process.ProcessState.TheVariants as state
use Rattle.wc_state.specs.declared.record.Await.{Await}
use Rattle.wc_state.specs.declared.record.Part.{Part}
use Rattle.wc_state.specs.declared.record.Part.TheVariants as part
use Rattle.wc_state.specs.declared.record.ProcessRecord.{ProcessRecord}
use Rattle.wc_world.specs.declared.change.Change.{Change}
use Rattle.wc_world.specs.declared.change.Change.TheVariants as change
use Rattle.wc_world.specs.World.{World}
use Rattle.wc_world.specs.Records.{find_record, has_ended, is_call_from}
use Rattle.wc_machine.specs.Tasks.{saturated}

-- what a part awaits; of a chain alone there is something
abbrev pub awaits_of : Part → List Await
awaits_of part.Fresh = []
awaits_of (part.Chain c) = c.awaiting
awaits_of (part.Job j) = []
awaits_of part.Over = []

-- the fuel of what is awaited, and one more for each
abbrev pub awaited_fuel : (ℕ → ℕ) → List Await → ℕ
awaited_fuel fuel [] = 0
awaited_fuel fuel (a ∷ rest) = suc (fuel a.pid) + awaited_fuel fuel rest

-- The fuel that a process has after a kill in which it is: a waiting chain gets 1 and the fuel after the kill for each child that it
-- awaits, where calls nest in at most so many levels.
abbrev pub fuel_after : ℕ → World → Option ProcessRecord → ℕ
fuel_after levels w None = 0
fuel_after zero w (Some r) = r.fuel
fuel_after (suc levels) w (Some r) =
    if has_ended r.state then r.fuel
    else saturated (r.fuel + awaited_fuel (λ pid. fuel_after levels w (find_record pid w.records)) (awaits_of r.part))

-- the change that sets a process to Killed, with its fuel
abbrev pub killed : ProcessRecord → ℕ → Change
killed r fuel = change.Set (record { pid = r.node; state = state.Killed; paused = false; cached_from = 0; fuel = fuel; code = None; part = part.Over })

-- a live process is killed
abbrev pub ends_killed : World → ProcessRecord → List Change
ends_killed w r = if has_ended r.state then [] else killed r (fuel_after 16 w (Some r)) ∷ []

-- A process and all that it called, directly or through calls, are killed where they live: calls in order, each after its own calls.
abbrev pub kill_below : ℕ → World → Option ProcessRecord → List Change
kill_below levels w None = []
kill_below zero w (Some r) = ends_killed w r
kill_below (suc levels) w (Some r) =
    flat_map (λ l. if is_call_from r.node l then kill_below levels w (find_record l.target w.records) else []) w.links ++ ends_killed w r

-- Depths go from 1 to 16, and a call goes one deeper.
abbrev pub kill_changes : World → ProcessRecord → List Change
kill_changes w r = kill_below 16 w (Some r)
