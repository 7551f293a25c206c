-- Laws of the turns by which a work chain goes on.
use Rattle.std.specs.Prelude.{◌≡◌, ℕ, List, length}
use Rattle.wc_syntax.specs.declared.definition.Chain.{Chain}
use Rattle.wc_syntax.specs.declared.definition.Definition.{Definition}
use Rattle.wc_state.specs.declared.environment.Env.{Env}
use Rattle.wc_state.specs.declared.record.Checkpoint.{Checkpoint}
use Rattle.wc_state.specs.declared.record.ProcessRecord.{ProcessRecord}
use Rattle.wc_world.specs.World.{World}
use Rattle.wc_machine.specs.Advances.{goes, loops, advance}
use Rattle.wc_machine.specs.Calls.{advanced}
use Rattle.wc_machine.specs.Laws.{HasPlaces}
use Rattle.wc_soundness.specs.TrackLaws.{IsAtTurn}
use Rattle.wc_soundness.specs.BindingLaws.{KeepsSound}
use Rattle.wc_soundness.specs.Standing.{StandsIn, StandsAfter, AreLow, AreLowAfter}

-- An advance from a checkpoint that is in the outline comes to one that is.
abbrev pub AdvancesStayInside : Type 0
AdvancesStayInside = (library : List Definition) (k : Chain) (depth : ℕ) (env : Env) (c : Checkpoint) → StandsIn k c → StandsAfter k (advance library k depth env c)

-- Where the values of the context are at most 32 deep, those after an advance are, and so are the values that it gives to calls.
abbrev pub AdvancesStayLow : Type 0
AdvancesStayLow = (library : List Definition) (k : Chain) (depth : ℕ) (env : Env) (c : Checkpoint) → AreLow c → AreLowAfter (advance library k depth env c)

-- A chain that goes on, with a turn of a loop or without, keeps a sound world sound, where there is room for a batch.
abbrev pub TurnsOfChainsKeepSound : Type 0
TurnsOfChainsKeepSound = (w : World) (r : ProcessRecord) (k : Chain) (library : List Definition) (c d : Checkpoint) (env : Env) → IsAtTurn w r k library c env
    → HasPlaces w (length w.nodes)
    → (advance library k r.depth env c ≡ goes d → KeepsSound w (advanced w r k.head.outputs (goes d)))
    × (advance library k r.depth env c ≡ loops d → KeepsSound w (advanced w r k.head.outputs (loops d)))
