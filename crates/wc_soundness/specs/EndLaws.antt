-- Laws of the ends of work chains.
use Rattle.std.specs.Prelude.{◌≡◌, ◌≢◌, ℕ, true, List, length}
use Rattle.wc_value.specs.declared.process.ProcessState.{ProcessState}
use Rattle.wc_value.specs.declared.process.ProcessState.TheVariants as state
use Rattle.wc_syntax.specs.declared.definition.Chain.{Chain}
use Rattle.wc_syntax.specs.declared.definition.Definition.{Definition}
use Rattle.wc_state.specs.declared.environment.Env.{Env}
use Rattle.wc_state.specs.declared.record.Checkpoint.{Checkpoint}
use Rattle.wc_state.specs.declared.record.ProcessRecord.{ProcessRecord}
use Rattle.wc_semantics.specs.Tables.{Label}
use Rattle.wc_world.specs.Records.{has_ended}
use Rattle.wc_world.specs.World.{World}
use Rattle.wc_machine.specs.Advances.{Advanced, goes, loops, submits, ends, advance}
use Rattle.wc_machine.specs.Calls.{advanced}
use Rattle.wc_machine.specs.Laws.{HasPlaces}
use Rattle.wc_soundness.specs.TrackLaws.{IsAtTurn}
use Rattle.wc_soundness.specs.BindingLaws.{KeepsSound}

-- An advance that ends its chain finishes or excepts it: it doesn't kill it.
abbrev pub EndsAlive : Advanced → Type 0
EndsAlive (goes d) = Unit {0}
EndsAlive (loops d) = Unit {0}
EndsAlive (submits d calls) = Unit {0}
EndsAlive (ends s outputs) = (has_ended s ≡ true) × (s ≢ state.Killed)

-- The law: an advance that ends its chain finishes or excepts it, and never kills it
abbrev pub AdvancesEndAlive : Type 0
AdvancesEndAlive = (library : List Definition) (k : Chain) (depth : ℕ) (env : Env) (c : Checkpoint) → EndsAlive (advance library k depth env c)

-- A chain at its turn comes to its end, whichever: past its outline, by a `return` or an exit, or by a reason. Where there is room for a batch,
-- that keeps a sound world sound.
abbrev pub EndsOfChainsKeepSound : Type 0
EndsOfChainsKeepSound = (w : World) (r : ProcessRecord) (k : Chain) (library : List Definition) (c : Checkpoint) (env : Env) (s : ProcessState) (outputs : List (Label × ℕ))
    → IsAtTurn w r k library c env → advance library k r.depth env c ≡ ends s outputs → HasPlaces w (length w.nodes)
    → KeepsSound w (advanced w r k.head.outputs (ends s outputs))
