-- The turn of a work chain that evaluates one instruction keeps a world sound, whatever it comes to.
use Rattle.std.proofs.Common.{◌≡◌, List, length, refl}
use Rattle.wc_syntax.specs.declared.definition.Chain.{Chain}
use Rattle.wc_syntax.specs.declared.definition.Definition.{Definition}
use Rattle.wc_state.specs.declared.environment.Env.{Env}
use Rattle.wc_state.specs.declared.record.Checkpoint.{Checkpoint}
use Rattle.wc_state.specs.declared.record.ProcessRecord.{ProcessRecord}
use Rattle.wc_world.specs.World.{World}
use Rattle.wc_world.specs.Applied.{applied}
use Rattle.wc_machine.specs.Advances.{Advanced, goes, loops, submits, ends, advance}
use Rattle.wc_machine.specs.Calls.{advanced}
use Rattle.wc_machine.specs.Laws.{HasPlaces}
use Rattle.wc_soundness.specs.BindingLaws.{KeepsSound}
use Rattle.wc_soundness.specs.TrackLaws.{IsAtTurn}
use Rattle.wc_soundness.proofs.ChainTurns.{turns_keep_sound}
use Rattle.wc_soundness.proofs.CallingTurns.{calls_of_chains_keep_sound}
use Rattle.wc_soundness.proofs.ChainEnds.{ends_of_chains_keep_sound}
use Rattle.wc_soundness.proofs.Room.{room_before}

module _ (w : World) (r : ProcessRecord) (k : Chain) (library : List Definition) (c : Checkpoint) (env : Env) (at : IsAtTurn w r k library c env) where
  by_outcome : (x : Advanced) → advance library k r.depth env c ≡ x → HasPlaces w (length (applied w (advanced w r k.head.outputs x)).nodes)
      → KeepsSound w (advanced w r k.head.outputs x)
  by_outcome (goes d) is places = (turns_keep_sound w r k library c d env at (room_before w (advanced w r k.head.outputs (goes d)) places)).0 is
  by_outcome (loops d) is places = (turns_keep_sound w r k library c d env at (room_before w (advanced w r k.head.outputs (loops d)) places)).1 is
  by_outcome (submits d calls) is places = calls_of_chains_keep_sound w r k library c d env calls at is places
  by_outcome (ends s outputs) is places = ends_of_chains_keep_sound w r k library c env s outputs at is (room_before w (advanced w r k.head.outputs (ends s outputs)) places)

  pub advances_keep : HasPlaces w (length (applied w (advanced w r k.head.outputs (advance library k r.depth env c))).nodes)
      → KeepsSound w (advanced w r k.head.outputs (advance library k r.depth env c))
  advances_keep = by_outcome (advance library k r.depth env c) refl
