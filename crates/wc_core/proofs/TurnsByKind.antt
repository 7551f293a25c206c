-- The turn of a ready process.
use Rattle.std.proofs.Common.{◌≡◌, ℕ, ◌≤◌, Bool, true, false, List, [], length, Some, refl, sym, ap, subst, ◌∙◌}
use Rattle.std.specs.Prelude.{◌≢◌, IfSome}
use Rattle.wc_syntax.specs.declared.definition.Chain.{Chain}
use Rattle.wc_syntax.specs.declared.definition.Definition.{Definition}
use Rattle.wc_state.specs.declared.environment.Env.{Env}
use Rattle.wc_state.specs.declared.record.Checkpoint.{Checkpoint}
use Rattle.wc_state.specs.declared.record.ProcessRecord.{ProcessRecord}
use Rattle.wc_world.specs.declared.change.Change.{Change}
use Rattle.wc_world.specs.World.{World}
use Rattle.wc_world.specs.Accepted.{IsAccepted, IsReached}
use Rattle.wc_world.specs.Applied.{applied}
use Rattle.wc_world.specs.Consistent.{IsConsistent}
use Rattle.wc_world.specs.Records.{find_record, has_ended}
use Rattle.wc_world.proofs.ReachedWorlds.{reached_is_consistent}
use Rattle.wc_world.proofs.SnapshotLists.{number_of_found}
use Rattle.wc_machine.specs.declared.answer.TaskAnswer.{TaskAnswer}
use Rattle.wc_machine.specs.Advances.{Advanced, goes, loops, submits, ends, advance}
use Rattle.wc_machine.specs.Questions.{fits, need}
use Rattle.wc_machine.specs.Calls.{advanced}
use Rattle.wc_machine.specs.Continues.{Continues}
use Rattle.wc_machine.specs.Laws.{HasPlaces}
use Rattle.wc_machine.specs.Machine.{Leads, turn, turns}
use Rattle.wc_machine.specs.Readiness.{is_ready}
use Rattle.wc_machine.specs.Sound.{IsSound, OutputsAscend}
use Rattle.wc_machine.specs.Turns.{TurnGives, calculates, clones, begins, excepts, gives_up, moves, parses, advances, binds}
use Rattle.wc_soundness.specs.ListLaws.{AreItsChanges}
use Rattle.wc_soundness.proofs.NoChanges.{turn_some}
use Rattle.wc_soundness.proofs.AcceptedBindings.{binding_accepted}
use Rattle.wc_soundness.proofs.CalculationEvents.{begins_accepted, clones_accepted, excepts_accepted, function_accepted, job_lives, parse_accepted, task_accepted}
use Rattle.wc_soundness.proofs.Calls.{calls_accepted}
use Rattle.wc_soundness.proofs.Chains.{IsTurn, end_accepted, loop_accepted, on_accepted}
use Rattle.wc_machine.specs.Refusals.{FullOf, HasRoom, NoneHolds}
use Rattle.wc_machine.specs.declared.error.TurnError.{TurnError}
use Rattle.wc_machine.specs.declared.error.TurnError.TheVariants as error
use Rattle.wc_machine.proofs.Rooms.{none_full}
use Rattle.wc_core.specs.Asks.{FitsAt}
use Rattle.wc_core.specs.Ready.{is_ready_at, is_ready_by}
use Rattle.wc_core.specs.Refusals.{RefusesTurn}
use Rattle.wc_core.proofs.Happening.{after_some, its_changes, leaves_sound, places_for}

-- ---- acceptance

-- where there is room for the nodes and the batch after them, the world accepts the changes
abbrev Accepts : World → List Change → Type 0
Accepts w cs = HasPlaces w (length (applied w cs).nodes) → IsAccepted w cs

module _ (w : World) (r : ProcessRecord) (k : Chain) (library : List Definition) (c : Checkpoint) (env : Env) (at : IsTurn w r k library c env) where
  by_outcome : (x : Advanced) → advance library k r.depth env c ≡ x → Accepts w (advanced w r k.head.outputs x)
  by_outcome (goes d) is places = on_accepted w r k library c env at d is places.batches
  by_outcome (loops d) is places = loop_accepted w r k library c env at d is places.batches
  by_outcome (submits d calls) is places = calls_accepted w r k library c env at d calls is places
  by_outcome (ends s outputs) is places = end_accepted w r k library c env at s outputs is places.batches

turn_accepted : (poll now : ℕ) (w : World) (r : ProcessRecord) (a : TaskAnswer) (cs : List Change) → IsConsistent w → OutputsAscend r.part
    → find_record r.node w.records ≡ Some r → is_ready w now r ≡ true → TurnGives poll now w r a cs → Accepts w cs
turn_accepted poll now w r a cs con ordered found ready (calculates f d is takes) places = function_accepted w con r found f d is places
turn_accepted poll now w r a cs con ordered found ready (clones q one is takes there) places = clones_accepted w con r found q one is takes there places
turn_accepted poll now w r a cs con ordered found ready (begins j q d is takes asked) places = begins_accepted w con r found j d is places.batches
turn_accepted poll now w r a cs con ordered found ready (excepts j reason d is takes asked) places = excepts_accepted w con r found j d reason (ap has_ended is) places
turn_accepted poll now w r a cs con ordered found ready (gives_up j p reason d at asked) places =
    excepts_accepted w con r found j d reason (job_lives w con r found j d p at) places
turn_accepted poll now w r a cs con ordered found ready (moves j p q answer m d at asked next) places = task_accepted w con r found j d p at poll now a m ready next places.batches
turn_accepted poll now w r a cs con ordered found ready (parses j p q result d at asked is) places = parse_accepted w con r found j d p at result places
turn_accepted poll now w r a cs con ordered found ready (advances k library c env d l at e) places =
    by_outcome w r k library c env (record { consistent = con; ordered = ordered; found = found; definition = d; library_there = l; stands = at; environment = e })
    (advance library k r.depth env c) refl places
turn_accepted poll now w r a cs con ordered found ready (binds k c d is at) places = binding_accepted w now r k c con found ready d is at places.batches

-- ---- the event

-- what a turn of a process gives is an event
pub turn_leads : (poll now pid : ℕ) (w : World) (r : ProcessRecord) (a : TaskAnswer) (cs : List Change) → find_record pid w.records ≡ Some r → is_ready w now r ≡ true
    → TurnGives poll now w r a cs → Leads poll w (turn pid a now) cs
turn_leads poll now pid w r a cs found ready gives =
    let number : r.node ≡ pid = number_of_found pid w.records r found in
    subst (λ (n : ℕ). Leads poll w (turn n a now) cs) number (turns r a now cs (ap (λ (n : ℕ). find_record n w.records) number ∙ found) ready gives)

-- the record under its own number
pub found_itself : (w : World) (pid : ℕ) (r : ProcessRecord) → find_record pid w.records ≡ Some r → find_record r.node w.records ≡ Some r
found_itself w pid r found = ap (λ (n : ℕ). find_record n w.records) (number_of_found pid w.records r found) ∙ found

-- the process that is found is ready
pub ready_itself : (w : World) (now pid : ℕ) (r : ProcessRecord) → find_record pid w.records ≡ Some r → (b : Bool) → b ≡ is_ready_at w pid now → b ≡ true → is_ready w now r ≡ true
ready_itself w now pid r found b is holds = ap (is_ready_by w now) (sym found) ∙ sym is ∙ holds

-- what the answer fits is there
pub fits_there : (w : World) (pid : ℕ) (r : ProcessRecord) (a : TaskAnswer) → FitsAt w pid a → find_record pid w.records ≡ Some r → fits (need w r) a ≡ true
fits_there w pid r a h found = subst (λ o. IfSome o (λ q. fits (need w q) a ≡ true)) found h

module _ (poll now pid : ℕ) (w : World) (r : ProcessRecord) (a : TaskAnswer) (found : find_record pid w.records ≡ Some r) (ready : is_ready w now r ≡ true) where
  module _ (cs : List Change) (reached : IsReached w) (gives : TurnGives poll now w r a cs) where
    leads : Leads poll w (turn pid a now) cs
    leads = turn_leads poll now pid w r a cs found ready gives

    some : cs ≢ []
    some = turn_some poll now w r a cs gives

    pub turn_changes : AreItsChanges poll w (turn pid a now) cs
    turn_changes = its_changes poll w (turn pid a now) cs leads reached

    module _ (most : ℕ) (few : most ≤ 8000000) (room : HasRoom most (applied w cs)) where
      places : HasPlaces w (length (applied w cs).nodes)
      places = places_for poll w (turn pid a now) cs leads most few room

      pub turn_is_accepted : OutputsAscend r.part → IsAccepted w cs
      turn_is_accepted ordered =
          turn_accepted poll now w r a cs (reached_is_consistent w reached) ordered (found_itself w pid r found) ready gives places

      pub turn_continues : IsSound w → Continues w (applied w cs)
      turn_continues sound = subst (Continues w) (after_some w cs some) (leaves_sound poll w (turn pid a now) cs leads (λ _. places) sound).continues

      pub turn_sound : IsSound w → IsSound (applied w cs)
      turn_sound sound = subst IsSound (after_some w cs some) (leaves_sound poll w (turn pid a now) cs leads (λ _. places) sound).sound

      pub turn_allowed : NoneHolds (RefusesTurn poll w pid a now most)
      turn_allowed error.NotReady h = let both : true ≡ false = sym ready ∙ ap (is_ready_by w now) (sym found) ∙ h in absurd (cc)
      turn_allowed (error.Full what count limit) h = none_full (Leads poll w (turn pid a now)) most w cs turn_changes.only room (error.Full what count limit) h
      turn_allowed error.UnknownProcess h = absurd h
      turn_allowed (error.Ended s) h = absurd h
      turn_allowed error.UnknownName h = absurd h
      turn_allowed (error.BadInputs port) h = absurd h
      turn_allowed error.OutOfMemory h = refl

  pub turn_refused : (most : ℕ) (e : TurnError) → FullOf (TurnGives poll now w r a) most w e → RefusesTurn poll w pid a now most e
  turn_refused most error.NotReady h = absurd h
  turn_refused most (error.Full what count limit) h = (h.0, turn_leads poll now pid w r a h.0 found ready h.1, h.2)
  turn_refused most error.UnknownProcess h = h
  turn_refused most (error.Ended s) h = h
  turn_refused most error.UnknownName h = h
  turn_refused most (error.BadInputs port) h = h
  turn_refused most error.OutOfMemory h = tt
