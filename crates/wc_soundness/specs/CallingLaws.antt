-- Laws of the turns at which a work chain submits calls.
use Rattle.std.specs.Prelude.{◌≡◌, List, length, Some}
use Rattle.wc_syntax.specs.declared.definition.Chain.{Chain}
use Rattle.wc_syntax.specs.declared.definition.Definition.{Definition}
use Rattle.wc_state.specs.declared.environment.Env.{Env}
use Rattle.wc_state.specs.declared.record.Checkpoint.{Checkpoint}
use Rattle.wc_state.specs.declared.record.ProcessRecord.{ProcessRecord}
use Rattle.wc_world.specs.Records.{find_record}
use Rattle.wc_world.specs.World.{World}
use Rattle.wc_machine.specs.Advances.{submits, advance}
use Rattle.wc_machine.specs.Calls.{advanced}
use Rattle.wc_machine.specs.Laws.{HasPlaces}
use Rattle.wc_machine.specs.Steps.{Call}
use Rattle.wc_soundness.specs.BindingLaws.{KeepsSound}
use Rattle.wc_soundness.specs.TrackLaws.{IsAtTurn, IsSoundChain, after_turn}

-- A chain of a sound world that submits calls, at its first turn or a later one, waits for them, and its record is sound afterwards.
abbrev pub CallingChainsStaySound : Type 0
CallingChainsStaySound = (w : World) (r : ProcessRecord) (k : Chain) (library : List Definition) (c d : Checkpoint) (env : Env) (calls : List Call)
    → IsAtTurn w r k library c env → advance library k r.depth env c ≡ submits d calls
    → (s : ProcessRecord) → find_record r.node (after_turn w r k (submits d calls)).records ≡ Some s → IsSoundChain (after_turn w r k (submits d calls)) s

-- So its turn keeps the world sound, where there is room for the nodes and the batch after it.
abbrev pub CallsOfChainsKeepSound : Type 0
CallsOfChainsKeepSound = (w : World) (r : ProcessRecord) (k : Chain) (library : List Definition) (c d : Checkpoint) (env : Env) (calls : List Call)
    → IsAtTurn w r k library c env → advance library k r.depth env c ≡ submits d calls → HasPlaces w (length (after_turn w r k (submits d calls)).nodes)
    → KeepsSound w (advanced w r k.head.outputs (submits d calls))
