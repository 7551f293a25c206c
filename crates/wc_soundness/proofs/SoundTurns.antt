-- A chain that goes on touches itself alone, and its record stays sound.
use Rattle.std.proofs.Common.{◌≡◌, ℕ, ◌+◌, false, List, Some, sym, subst}
use Rattle.wc_value.specs.Ascending.{Ascends}
use Rattle.wc_syntax.specs.declared.definition.Chain.{Chain}
use Rattle.wc_syntax.specs.declared.definition.Definition.{Definition}
use Rattle.wc_state.specs.declared.environment.Env.{Env}
use Rattle.wc_state.specs.declared.record.Checkpoint.{Checkpoint}
use Rattle.wc_state.specs.declared.record.ProcessRecord.{ProcessRecord}
use Rattle.wc_world.specs.Records.{find_record, has_ended}
use Rattle.wc_world.specs.World.{World}
use Rattle.wc_machine.specs.Advances.{Advanced, goes, loops, advance}
use Rattle.wc_machine.specs.Sound.{IsKnownNode, HoldsEnded, OutputsAscend}
use Rattle.wc_machine.specs.Rest.{IsOnTrack}
use Rattle.wc_machine.specs.Tasks.{saturated}
use Rattle.wc_turn_laws.specs.OutlineLaws.{AreOrdered, KeepsCalls}
use Rattle.wc_turn_laws.specs.Nodes.{NodesAre, Holds, HoldsAfter}
use Rattle.wc_turn_laws.proofs.Ordered.{none_ascends, advances_keep_order}
use Rattle.wc_turn_laws.proofs.Passed.{advance_holds}
use Rattle.wc_soundness.specs.Touches.{Touches}
use Rattle.wc_soundness.specs.TrackLaws.{IsAtTurn, IsSoundChain, IsSoundTurn, ChainsStaySound}
use Rattle.wc_soundness.proofs.ChainAdvances.{env_is, its_record, numbered, goes_on_track, loops_on_track}
use Rattle.wc_soundness.proofs.TrackKept.{fits_now, calls_now, awaits_now, placed_now}
use Rattle.wc_soundness.proofs.Names.{nodes_known, kept_known, node_known}
use Rattle.wc_soundness.proofs.OneSet.{went, now_runs, goes_touch, found_now}
use Rattle.wc_soundness.proofs.ChainStanding.{Standing, begins, runs, stands_at, is_live, its_fit}

module _ (w : World) (r : ProcessRecord) (k : Chain) (library : List Definition) (c : Checkpoint) (env : Env) (at : IsAtTurn w r k library c env) where
  stands : Standing r c
  stands = stands_at r c at.stands

  live : has_ended r.state ≡ false
  live = is_live r c stands

  outputs_ascend : (c' : Checkpoint) → Standing r c' → Ascends c'.outputs
  outputs_ascend c' (begins a b) = none_ascends ℕ
  outputs_ascend c' (runs x a b) = subst OutputsAscend b (its_fit w at.sound r at.found).outputs

  ordered : (x : Advanced) → advance library k r.depth env c ≡ x → AreOrdered x
  ordered x e = subst AreOrdered e (advances_keep_order library k r.depth env c (outputs_ascend c stands))

  names : (fuel : ℕ) (d : Checkpoint) (x : Advanced) → advance library k r.depth env c ≡ x
      → HoldsAfter (λ n. IsKnownNode w r n.node) (HoldsEnded (went w r fuel d) (now_runs w r fuel d)) (IsKnownNode (went w r fuel d) (now_runs w r fuel d)) x
  names fuel d x e = subst (HoldsAfter (λ n. IsKnownNode w r n.node) (HoldsEnded (went w r fuel d) (now_runs w r fuel d)) (IsKnownNode (went w r fuel d) (now_runs w r fuel d))) e
      (advance_holds (λ n. IsKnownNode w r n.node) (HoldsEnded (went w r fuel d) (now_runs w r fuel d)) (IsKnownNode (went w r fuel d) (now_runs w r fuel d)) (λ x. tt)
      (node_known w r c d at.sound at.found stands fuel) library k r.depth env c
      (subst (NodesAre (λ n. IsKnownNode w r n.node)) (sym (env_is w r k library c env at)) (nodes_known w r c d at.sound at.found stands fuel))
      (kept_known w r c d at.sound at.found stands fuel))

  sound_chain : (fuel : ℕ) (d : Checkpoint) → KeepsCalls c d → Ascends d.outputs
      → Holds (λ n. IsKnownNode w r n.node) (HoldsEnded (went w r fuel d) (now_runs w r fuel d)) (IsKnownNode (went w r fuel d) (now_runs w r fuel d)) d
      → IsOnTrack (went w r fuel d) (now_runs w r fuel d) → IsSoundChain (went w r fuel d) (now_runs w r fuel d)
  sound_chain fuel d counts ascend holds track = record {
    fits = fits_now w r c d at.sound at.found stands counts fuel ascend;
    placed = placed_now w r c d at.sound at.found stands counts fuel;
    calls = calls_now w r c d at.sound at.found stands counts fuel;
    awaits = awaits_now w r c d at.sound at.found stands counts fuel;
    names = holds;
    track = track;
  }

  touched : (fuel : ℕ) (d : Checkpoint) → Touches w (went w r fuel d) r.node
  touched fuel d = goes_touch w r at.found live (its_fit w at.sound r at.found) fuel d

  there_now : (fuel : ℕ) (d : Checkpoint) → find_record r.node (went w r fuel d).records ≡ Some (now_runs w r fuel d)
  there_now fuel d = found_now w r at.found live (its_fit w at.sound r at.found) fuel d

  pub goes_sound : (d : Checkpoint) → advance library k r.depth env c ≡ goes d → IsSoundTurn w r k (goes d)
  goes_sound d e = (
    touched r.fuel d,
    λ s there. subst (IsSoundChain (went w r r.fuel d)) (its_record w r k library c env at r.fuel d s there)
        (sound_chain r.fuel d (numbered w r k library c env at (goes d) e) (ordered (goes d) e) (names r.fuel d (goes d) e)
        (goes_on_track w r k library c env at d e (now_runs w r r.fuel d) (there_now r.fuel d))),
  )

  pub loops_sound : (d : Checkpoint) → advance library k r.depth env c ≡ loops d → IsSoundTurn w r k (loops d)
  loops_sound d e = (
    touched (saturated (r.fuel + 1)) d,
    λ s there. subst (IsSoundChain (went w r (saturated (r.fuel + 1)) d)) (its_record w r k library c env at (saturated (r.fuel + 1)) d s there)
        (sound_chain (saturated (r.fuel + 1)) d (numbered w r k library c env at (loops d) e) (ordered (loops d) e) (names (saturated (r.fuel + 1)) d (loops d) e)
        (loops_on_track w r k library c env at d e (now_runs w r (saturated (r.fuel + 1)) d) (there_now (saturated (r.fuel + 1)) d))),
  )

pub chains_stay_sound : ChainsStaySound
chains_stay_sound w r k library c d env at = (goes_sound w r k library c env at d, loops_sound w r k library c env at d)
