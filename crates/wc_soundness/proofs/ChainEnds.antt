-- The end of a work chain keeps a sound world sound.
use Rattle.std.proofs.Common.{◌≡◌, ℕ, List, ◌++◌, [], ◌∷◌, length, sym, subst}
use Rattle.wc_value.specs.declared.process.ProcessState.{ProcessState}
use Rattle.wc_syntax.specs.declared.definition.Chain.{Chain}
use Rattle.wc_syntax.specs.declared.definition.Definition.{Definition}
use Rattle.wc_state.specs.declared.environment.Env.{Env}
use Rattle.wc_state.specs.declared.record.Checkpoint.{Checkpoint}
use Rattle.wc_state.specs.declared.record.Part.TheVariants as part
use Rattle.wc_state.specs.declared.record.ProcessRecord.{ProcessRecord}
use Rattle.wc_semantics.specs.Tables.{Label}
use Rattle.wc_world.specs.declared.change.Change.{Change}
use Rattle.wc_world.specs.World.{World}
use Rattle.wc_world.specs.Accepted.{IsAccepted}
use Rattle.wc_world.specs.Applied.{applied}
use Rattle.wc_world.specs.Consistent.{IsConsistent}
use Rattle.wc_world.proofs.ReachedWorlds.{accepted_is_consistent}
use Rattle.wc_machine.specs.Advances.{ends, advance}
use Rattle.wc_machine.specs.Calls.{advanced, chain_set}
use Rattle.wc_machine.specs.Continues.{Continues}
use Rattle.wc_machine.specs.Laws.{HasPlaces}
use Rattle.wc_machine.specs.Sound.{IsSound}
use Rattle.wc_soundness.specs.TrackLaws.{IsAtTurn}
use Rattle.wc_soundness.specs.BindingLaws.{KeepsSound}
use Rattle.wc_soundness.specs.EndLaws.{EndsOfChainsKeepSound}
use Rattle.wc_soundness.proofs.EndAccepted.{ending_accepted}
use Rattle.wc_soundness.proofs.EndedChains.{ended_is_sound, goes_on}
use Rattle.wc_soundness.proofs.Returns.{applied_ending, ended_to, ending, kept_is}
use Rattle.wc_soundness.proofs.Trees.{given, given_ascend, given_nodes, is_chain, is_meant, last, live, over, stands}

module _ (w : World) (r : ProcessRecord) (k : Chain) (library : List Definition) (c : Checkpoint) (env : Env) (at : IsAtTurn w r k library c env) (s : ProcessState)
    (outputs : List (Label × ℕ)) (is : advance library k r.depth env c ≡ ends s outputs) (places : HasPlaces w (length w.nodes)) where
  abbrev state_then : ProcessState
  state_then = last w r k library c env at s outputs is

  abbrev outputs_then : List (Label × ℕ)
  outputs_then = given w r k library c env at s outputs is

  abbrev changes : List Change
  changes = ending w r state_then outputs_then

  same_world : applied w changes ≡ ended_to w r state_then outputs_then
  same_world = applied_ending w r state_then outputs_then

  accepted : IsAccepted w changes
  accepted =
      ending_accepted w r state_then outputs_then at.sound.consistent at.found (is_chain w r k library c env at s outputs is) (live w r k library c env at s outputs is)
      (over w r k library c env at s outputs is) (given_ascend w r k library c env at s outputs is) (given_nodes w r k library c env at s outputs is) places.batches

  keeps : KeepsSound w changes
  keeps = record {
    accepted = accepted;
    continues = subst (Continues w) (sym same_world)
        (goes_on w r c at.sound at.found (stands w r k library c env at s outputs is) (is_chain w r k library c env at s outputs is) state_then outputs_then
        (over w r k library c env at s outputs is));
    sound = subst IsSound (sym same_world)
        (ended_is_sound w r c at.sound at.found (stands w r k library c env at s outputs is) (is_chain w r k library c env at s outputs is) state_then outputs_then
        (over w r k library c env at s outputs is) (subst IsConsistent same_world (accepted_is_consistent w changes at.sound.consistent accepted))
        (is_meant w r k library c env at s outputs is));
  }

  pub end_keeps_sound : KeepsSound w (advanced w r k.head.outputs (ends s outputs))
  end_keeps_sound =
      subst (λ (cs : List Change). KeepsSound w (cs ++ chain_set w r state_then r.fuel part.Over ∷ [])) (sym (kept_is w r s outputs)) keeps

pub ends_of_chains_keep_sound : EndsOfChainsKeepSound
ends_of_chains_keep_sound w r k library c env s outputs at is places = end_keeps_sound w r k library c env at s outputs is places
