-- The lowest valid source with a key.
use Rattle.std.specs.Prelude.{◌≡◌, ℕ, ◌<◌, Bool, false, not, All, List, Option, Some, None}
use Rattle.wc_value.specs.declared.process.ProcessState.{ProcessState}
use Rattle.wc_value.specs.declared.process.ProcessState.TheVariants as state
use Rattle.wc_syntax.specs.declared.definition.Definition.{Definition}
use Rattle.wc_state.specs.declared.record.ProcessRecord.{ProcessRecord}
use Rattle.wc_world.specs.World.{World}
use Rattle.wc_world.specs.Records.{find_record}
use Rattle.wc_machine.specs.Sources.{IsValidSource, marks}
use Rattle.wc_cache.specs.Keys.{IsKeyOf}

-- the definition is there and doesn't mark the status
abbrev pub is_unmarked_by : Option Definition → ℕ → Bool
is_unmarked_by None status = false
is_unmarked_by (Some d) status = not (marks d status)

-- finished, with a status that the definition doesn't mark
abbrev pub is_unmarked : ProcessState → Option Definition → Bool
is_unmarked (state.Finished n) d = is_unmarked_by d n
is_unmarked _ d = false

-- a valid source for a start in a batch that has this key
abbrev pub IsSourceWith : World → ℕ → List ℕ → ProcessRecord → Type 0
IsSourceWith w batch key q = IsValidSource w batch q × IsKeyOf w q key

-- the lowest of these, or none where there is none
abbrev pub IsLowestWith : World → ℕ → List ℕ → Option ℕ → Type 0
IsLowestWith w batch key None = All (λ q. ¬ IsSourceWith w batch key q) w.records
IsLowestWith w batch key (Some source) =
    ((q : ProcessRecord) × (find_record source w.records ≡ Some q) × IsSourceWith w batch key q)
    × All (λ q. q.node < source → ¬ IsSourceWith w batch key q) w.records
