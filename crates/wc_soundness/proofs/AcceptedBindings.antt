-- A consistent world accepts the turn of a waiting chain that is ready: it binds the children that it awaited.
use Rattle.std.proofs.Common.{◌≡◌, ℕ, ◌+◌, ◌<◌, true, false, Option, Some, None, refl, sym, ap, ◌∙◌}
use Rattle.std.specs.Prelude.{not, is_some, All}
use Rattle.std.specs.List.{list_all}
use Rattle.std.proofs.lemmas.Bool.{and_from}
use Rattle.std.proofs.lemmas.List.Elements.{All-weaker}
use Rattle.wc_value.specs.declared.process.ProcessState.TheVariants as state
use Rattle.wc_syntax.specs.declared.definition.Chain.{Chain}
use Rattle.wc_syntax.specs.declared.definition.Definition.TheVariants as definition
use Rattle.wc_state.specs.declared.record.Checkpoint.{Checkpoint}
use Rattle.wc_state.specs.declared.record.Part.TheVariants as part
use Rattle.wc_state.specs.declared.record.ProcessKind.{ProcessKind}
use Rattle.wc_state.specs.declared.record.ProcessKind.TheVariants as kind
use Rattle.wc_state.specs.declared.record.ProcessRecord.{ProcessRecord}
use Rattle.wc_world.specs.Accepted.{IsAccepted}
use Rattle.wc_world.specs.Consistent.{IsConsistent, Stands}
use Rattle.wc_world.specs.Fits.{chain_runs, counted_calls, held_fits, is_of_kind, is_process, standing_fits}
use Rattle.wc_world.specs.Records.{find_record, has_ended, same_kind}
use Rattle.wc_world.specs.World.{World}
use Rattle.wc_world.proofs.FoundRecords.{found_holds, right}
use Rattle.wc_world.proofs.ReachedGrown.{CheckpointFits, checkpoint_from, checkpoint_parts}
use Rattle.wc_machine.specs.Calls.{bound, bound_in, fuel_of}
use Rattle.wc_machine.specs.Readiness.{ended_at, is_ready, is_over, may_go}
use Rattle.wc_machine.specs.Recorded.{its_definition}
use Rattle.wc_machine.specs.Tasks.{saturated}
use Rattle.wc_soundness.proofs.Moves.{moves_accepted}
use Rattle.wc_soundness.specs.BindingLaws.{binding}
use Rattle.wc_soundness.proofs.Held.{all_from, bound_holds, from_all}

chain_runs_on : (k : ProcessKind) (c : Checkpoint) → same_kind kind.Chain k ≡ true → chain_runs k (part.Chain (bound c)) ≡ true
chain_runs_on kind.Function c h = absurd (cc h)
chain_runs_on kind.Job c h = absurd (cc h)
chain_runs_on kind.Chain c h = refl

-- what has ended is there
ended_is_there : (o : Option ProcessRecord) → is_over o ≡ true → is_some o ≡ true
ended_is_there None h = absurd (cc)
ended_is_there (Some x) h = refl

pub binding_accepted : (w : World) (now : ℕ) (r : ProcessRecord) (k : Chain) (c : Checkpoint) → IsConsistent w → find_record r.node w.records ≡ Some r
    → is_ready w now r ≡ true → its_definition w r ≡ Some (definition.Chain k) → r.state ≡ state.Waiting → r.part ≡ part.Chain c → w.batches < 4000000000
    → IsAccepted w (binding w r c)
binding_accepted w now r k c consistent found ready d waits is room =
    let stands : Stands w r = found_holds (Stands w) r.node w.records r consistent.records found in
    let live : not (has_ended r.state) ≡ true = ap (λ s. not (has_ended s)) waits in
    let through : list_all (λ a. ended_at w.records a.pid) c.awaiting ≡ true
    = (λ i. may_go w now (sym waits i) (sym is i)) ∙ right (not r.paused) (may_go w now r.state r.part) ready in
    let parts : CheckpointFits w r c = checkpoint_parts w r c (ap (standing_fits w r) (sym is) ∙ stands.standing) in
    let there : All (λ a. is_process w.records a.pid ≡ true) c.awaiting
    = All-weaker (λ a. ended_at w.records a.pid ≡ true) (λ a. is_process w.records a.pid ≡ true) (λ a. ended_is_there (find_record a.pid w.records)) c.awaiting
    (all_from (λ a. ended_at w.records a.pid) c.awaiting through) in
    let held : list_all (λ e. held_fits w.records e.1) (bound_in c.ctx c.awaiting) ≡ true
    = from_all (λ e. held_fits w.records e.1) (bound_in c.ctx c.awaiting)
    (bound_holds (λ x. held_fits w.records x ≡ true) (λ n. is_process w.records n ≡ true) (λ n p. p) (λ ns all. from_all (is_process w.records) ns all)
    (λ ns all. all_from (is_process w.records) ns all) c.awaiting c.ctx there (all_from (λ e. held_fits w.records e.1) c.ctx parts.ctx)) in
    let standing : standing_fits w r (part.Chain (bound c)) ≡ true
    = checkpoint_from w r (bound c) (record { some = parts.some; frames = parts.frames; awaiting = refl; ctx = held; outputs = parts.outputs }) in
    let runs : chain_runs r.kind (part.Chain (bound c)) ≡ true = chain_runs_on r.kind c (ap (is_of_kind r.kind) (sym d) ∙ stands.defined) in
    moves_accepted w r state.Running false (saturated (r.fuel + fuel_of w.records c.awaiting)) (part.Chain (bound c)) consistent found
    (record {
      fits = and_from (not (has_ended r.state)) _ live (and_from (chain_runs r.kind (part.Chain (bound c))) _ runs standing);
      goes_on = refl;
      counted = ap counted_calls (sym is);
    }) room
