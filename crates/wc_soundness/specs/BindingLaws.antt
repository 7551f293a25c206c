-- Laws of binding.
use Rattle.std.specs.Prelude.{◌≡◌, ℕ, ◌+◌, true, List, [], ◌∷◌, length, Some}
use Rattle.wc_value.specs.declared.process.ProcessState.TheVariants as state
use Rattle.wc_syntax.specs.declared.definition.Chain.{Chain}
use Rattle.wc_syntax.specs.declared.definition.Definition.TheVariants as definition
use Rattle.wc_state.specs.declared.record.Checkpoint.{Checkpoint}
use Rattle.wc_state.specs.declared.record.Part.TheVariants as part
use Rattle.wc_state.specs.declared.record.ProcessRecord.{ProcessRecord}
use Rattle.wc_world.specs.declared.change.Change.{Change}
use Rattle.wc_world.specs.World.{World}
use Rattle.wc_world.specs.Accepted.{IsAccepted}
use Rattle.wc_world.specs.Applied.{applied}
use Rattle.wc_world.specs.Records.{find_record}
use Rattle.wc_machine.specs.Calls.{bound, chain_set, fuel_of}
use Rattle.wc_machine.specs.Continues.{Continues}
use Rattle.wc_machine.specs.Laws.{HasPlaces}
use Rattle.wc_machine.specs.Readiness.{is_ready}
use Rattle.wc_machine.specs.Recorded.{its_definition}
use Rattle.wc_machine.specs.Sound.{IsSound}
use Rattle.wc_machine.specs.Tasks.{saturated}

-- The world accepts the changes, and the world after them continues it and is sound.
pub record KeepsSound (w : World) (cs : List Change) : Type 0 where
  pub accepted : IsAccepted w cs
  pub continues : Continues w (applied w cs)
  pub sound : IsSound (applied w cs)

-- the change with which a chain binds the children that it awaited
abbrev pub binding : World → ProcessRecord → Checkpoint → List Change
binding w r c = chain_set w r state.Running (saturated (r.fuel + fuel_of w.records c.awaiting)) (part.Chain (bound c)) ∷ []

-- A chain that waits and is ready binds its children: where there is room for a batch, that keeps a sound world sound.
abbrev pub BindingsKeepSound : Type 0
BindingsKeepSound = (w : World) (now : ℕ) (r : ProcessRecord) (k : Chain) (c : Checkpoint) → IsSound w → find_record r.node w.records ≡ Some r
    → is_ready w now r ≡ true → its_definition w r ≡ Some (definition.Chain k) → r.state ≡ state.Waiting → r.part ≡ part.Chain c → HasPlaces w (length w.nodes)
    → KeepsSound w (binding w r c)
