-- A work chain that is killed while it waits: the second job has ended, and the first is killed with it.
use Rattle.std.specs.Prelude.{ℕ, pos, false, List, [], ◌∷◌, None, codes}
use Rattle.wc_value.specs.declared.process.ProcessState.TheVariants as state
use Rattle.wc_value.specs.declared.process.Tree.{Tree}
use Rattle.wc_semantics.specs.declared.progress.Replayed.{Replayed}
use Rattle.wc_state.specs.declared.record.Part.TheVariants as part
use Rattle.wc_state.specs.declared.record.ProcessRecord.{ProcessRecord}
use Rattle.wc_world.specs.World.{World}
use Rattle.wc_world.specs.declared.change.Change.{Change}
use Rattle.wc_world.specs.declared.change.Change.TheVariants as change
use Rattle.wc_soundness.specs.Words.{tree}
use Rattle.wc_soundness.specs.FanWorlds.{world, half_nodes, half_links, fan_record, first_job, second_job, job_record, over, one, two, job_tree, request}

-- the change that kills a process
abbrev pub kills : ℕ → ℕ → Change
kills pid fuel = change.Set (record { pid = pid; state = state.Killed; paused = false; cached_from = 0; fuel = fuel; code = None; part = part.Over })

-- the job before its caller, which gets 1 for each of the two children that it awaited
abbrev pub kill_changes : List Change
kill_changes = kills 3 0 ∷ (kills 2 2 ∷ [])

-- the record of the killed chain
abbrev pub killed_chain : ProcessRecord
killed_chain = fan_record state.Killed 2 2 8 part.Over

-- the job that was killed before its first turn has not started
abbrev pub killed : World
killed = world half_nodes half_links (killed_chain ∷ (job_record first_job state.Killed None 0 8 part.Over ∷ (over second_job 3 7 ∷ []))) 8

-- the tree of the killed chain
abbrev pub killed_tree : Tree
killed_tree = tree (codes "fan") state.Killed [] ((one, tree (codes "double") state.Killed [] []) ∷ ((two, job_tree 54 (pos 6)) ∷ []))

-- the tree, with what was asked for it: the killed job asked nothing
abbrev pub killed_replayed : Replayed
killed_replayed = record { tree = killed_tree; asked = (two ∷ [], request 51) ∷ [] }
