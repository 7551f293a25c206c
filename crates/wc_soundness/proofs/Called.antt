-- The worlds that calls make, and what each called process has in them.
use Rattle.std.proofs.Common.{◌≡◌, ℕ, true, List, Some, refl, sym, subst}
use Rattle.wc_syntax.specs.declared.definition.Chain.{Chain}
use Rattle.wc_syntax.specs.declared.definition.Definition.{Definition}
use Rattle.wc_state.specs.declared.environment.Env.{Env}
use Rattle.wc_state.specs.declared.record.Checkpoint.{Checkpoint}
use Rattle.wc_state.specs.declared.record.ProcessRecord.{ProcessRecord}
use Rattle.wc_world.specs.Records.{find_record, has_called, is_call_from}
use Rattle.wc_world.specs.World.{World}
use Rattle.std.specs.Prelude.{◌==◌, ◌&&◌}
use Rattle.wc_machine.specs.Advances.{advance, submits}
use Rattle.wc_machine.specs.Calls.{called_number}
use Rattle.wc_machine.specs.Recorded.{recorded_inputs}
use Rattle.wc_machine.specs.Steps.{Call, values_in}
use Rattle.wc_soundness.specs.TrackLaws.{IsAtTurn}
use Rattle.wc_soundness.specs.SubmitLaws.{IsCalledWith, CallsMakeTheseWorlds, CalledHaveTheirInputs}
use Rattle.wc_soundness.specs.Submitted.{EachCall, calls_links, child_record, first_free, now_waits, submitted}
use Rattle.wc_soundness.proofs.ChainChildren.{any_behind, children_called}
use Rattle.wc_soundness.proofs.Inputs.{called_inputs}
use Rattle.wc_soundness.proofs.Records.{each_both, each_by, found_children, found_now, within}
use Rattle.wc_soundness.proofs.ChainSubmissions.{calls_ascend, calls_read}
use Rattle.wc_soundness.proofs.SubmitTurns.{gives}
use Rattle.wc_soundness.proofs.Worlds.{submits_gives}

pub calls_make_these_worlds : CallsMakeTheseWorlds
calls_make_these_worlds w r ports d calls consistent found = submits_gives w r ports d calls (within w r consistent found d calls r.node r found)

module _ (w : World) (r : ProcessRecord) (k : Chain) (library : List Definition) (c d : Checkpoint) (env : Env) (calls : List Call) (at : IsAtTurn w r k library c env)
    (e : advance library k r.depth env c ≡ submits d calls) where
  abbrev v : World
  v = submitted w r d calls

  abbrev Found : ℕ → Call → Type 0
  Found n x = find_record (called_number w r n x) v.records ≡ Some (child_record w r n x)

  abbrev Called : ℕ → Call → Type 0
  Called n x = has_called (calls_links w r (first_free w r) calls) r.node (called_number w r n x) ≡ true

  abbrev Given : ℕ → Call → Type 0
  Given n x = recorded_inputs v (called_number w r n x) ≡ values_in x.args

  -- what holds of one call, put together
  one : (n : ℕ) (x : Call) → Found n x × (Called n x × Given n x) → IsCalledWith w v r (now_waits w r d calls) n x
  one n x h = record {
    found = h.0;
    deeper = refl;
    caller = (
      found_now w r at.sound.consistent at.found d calls,
      any_behind (λ l. is_call_from r.node l && (l.target == called_number w r n x)) w.links (calls_links w r (first_free w r) calls) h.1.0,
      refl,
      refl,
    );
    inputs = h.1.1;
  }

  each : EachCall w r (IsCalledWith w v r (now_waits w r d calls)) (first_free w r) calls
  each =
      each_by w r (λ n x. Found n x × (Called n x × Given n x)) (IsCalledWith w v r (now_waits w r d calls)) one (first_free w r) calls
      (each_both w r Found (λ n x. Called n x × Given n x) (first_free w r) calls (found_children w r at.sound.consistent at.found d calls)
      (each_both w r Called Given (first_free w r) calls (children_called w r (first_free w r) calls)
      (called_inputs w r at.sound.consistent d calls (calls_read w r k library c env at d calls e) (calls_ascend w r k library c env at d calls e))))

pub called_have_their_inputs : CalledHaveTheirInputs
called_have_their_inputs w r k library c d env calls at e =
    subst (λ (x : World). EachCall w r (IsCalledWith w x r (now_waits w r d calls)) (first_free w r) calls) (sym (gives w r k library c d env calls at e))
    (each w r k library c d env calls at e)
