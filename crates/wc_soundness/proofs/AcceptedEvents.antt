-- A world that accepted changes make accepts the changes of each event.
use Rattle.std.proofs.Common.{◌≡◌, ℕ, ◌+◌, true, Some, List, [], ◌∷◌, length, map, refl, ap, subst, ◌∙◌, arith}
use Rattle.std.specs.Prelude.{◌≢◌}
use Rattle.std.proofs.lemmas.List.{length-append, length-map}
use Rattle.wc_syntax.specs.declared.definition.Chain.{Chain}
use Rattle.wc_syntax.specs.declared.definition.Definition.{Definition}
use Rattle.wc_semantics.specs.Rules.{Values}
use Rattle.wc_state.specs.declared.environment.Env.{Env}
use Rattle.wc_state.specs.declared.record.Checkpoint.{Checkpoint}
use Rattle.wc_state.specs.declared.record.ProcessRecord.{ProcessRecord}
use Rattle.wc_world.specs.declared.change.Change.{Change}
use Rattle.wc_world.specs.World.{World}
use Rattle.wc_world.specs.Accepted.{IsAccepted}
use Rattle.wc_world.specs.Applied.{applied}
use Rattle.wc_world.specs.Consistent.{IsConsistent}
use Rattle.wc_world.specs.Records.{find_record, has_ended, kind_of_definition, process_node}
use Rattle.wc_world.proofs.FoundRecords.{found_holds}
use Rattle.wc_world.proofs.ReachedWorlds.{reached_is_consistent}
use Rattle.wc_machine.specs.declared.answer.TaskAnswer.{TaskAnswer}
use Rattle.wc_machine.specs.Advances.{Advanced, goes, loops, submits, ends, advance}
use Rattle.wc_machine.specs.Calls.{advanced}
use Rattle.wc_machine.specs.Laws.{HasPlaces}
use Rattle.wc_machine.specs.Machine as machine
use Rattle.wc_machine.specs.Machine.{turns, pauses, plays, kills, after_changes}
use Rattle.wc_machine.specs.Readiness.{is_ready}
use Rattle.wc_machine.specs.Sound.{OutputsAscend}
use Rattle.wc_machine.specs.Submissions.{Submits, submitted_number}
use Rattle.wc_machine.specs.Turns.{TurnGives, calculates, clones, begins, excepts, gives_up, moves, parses, advances, binds}
use Rattle.wc_machine.proofs.Submitted.{data_node, new_nodes, submission_gives}
use Rattle.wc_machine.proofs.SubmittedAccepted.{submissions_are_accepted}
use Rattle.wc_soundness.specs.AcceptedLaws.{EventsAreAccepted}
use Rattle.wc_soundness.proofs.AcceptedBindings.{binding_accepted}
use Rattle.wc_soundness.proofs.CalculationEvents.{begins_accepted, clones_accepted, excepts_accepted, function_accepted, job_lives, parse_accepted, pause_accepted, play_accepted, task_accepted}
use Rattle.wc_soundness.proofs.Calls.{calls_accepted}
use Rattle.wc_soundness.proofs.Chains.{IsTurn, end_accepted, loop_accepted, on_accepted}
use Rattle.wc_soundness.proofs.AcceptedKills.{kill_accepted}

-- the nodes after a submission are those up to the number of the process
nodes_then : (w : World) (library : List Definition) (caching : List (List ℕ)) (name : List ℕ) (inputs : Values) (cs : List Change) (s : Submits w library caching name inputs cs)
    → length (applied w cs).nodes ≡ submitted_number w inputs
nodes_then w library caching name inputs cs s =
    ap (λ (l : List Change). length (applied w l).nodes) s.changes
    ∙ ap (λ (v : World). length v.nodes) (submission_gives w library caching name inputs s.definition)
    ∙ length-append w.nodes (new_nodes w library caching name inputs s.definition)
    ∙ ap (λ (n : ℕ). length w.nodes + n) (length-append (map data_node inputs) (process_node (kind_of_definition s.definition) ∷ []) ∙ ap (λ (n : ℕ). n + 1) (length-map inputs data_node))
    ∙ omega arith

-- where there is room for the nodes and the batch after them, the world accepts the changes
abbrev Accepts : World → List Change → Type 0
Accepts w cs = HasPlaces w (length (applied w cs).nodes) → IsAccepted w cs

module _ (w : World) (r : ProcessRecord) (k : Chain) (library : List Definition) (c : Checkpoint) (env : Env) (at : IsTurn w r k library c env) where
  by_outcome : (x : Advanced) → advance library k r.depth env c ≡ x → Accepts w (advanced w r k.head.outputs x)
  by_outcome (goes d) is places = on_accepted w r k library c env at d is places.batches
  by_outcome (loops d) is places = loop_accepted w r k library c env at d is places.batches
  by_outcome (submits d calls) is places = calls_accepted w r k library c env at d calls is places
  by_outcome (ends s outputs) is places = end_accepted w r k library c env at s outputs is places.batches

turn_accepted : (poll now : ℕ) (w : World) (r : ProcessRecord) (a : TaskAnswer) (cs : List Change) → IsConsistent w → OutputsAscend r.part
    → find_record r.node w.records ≡ Some r → is_ready w now r ≡ true → TurnGives poll now w r a cs → Accepts w cs
turn_accepted poll now w r a cs con ordered found ready (calculates f d is takes) places = function_accepted w con r found f d is places
turn_accepted poll now w r a cs con ordered found ready (clones q one is takes there) places = clones_accepted w con r found q one is takes there places
turn_accepted poll now w r a cs con ordered found ready (begins j q d is takes asked) places = begins_accepted w con r found j d is places.batches
turn_accepted poll now w r a cs con ordered found ready (excepts j reason d is takes asked) places = excepts_accepted w con r found j d reason (ap has_ended is) places
turn_accepted poll now w r a cs con ordered found ready (gives_up j p reason d at asked) places =
    excepts_accepted w con r found j d reason (job_lives w con r found j d p at) places
turn_accepted poll now w r a cs con ordered found ready (moves j p q answer m d at asked next) places = task_accepted w con r found j d p at poll now a m ready next places.batches
turn_accepted poll now w r a cs con ordered found ready (parses j p q result d at asked is) places = parse_accepted w con r found j d p at result places
turn_accepted poll now w r a cs con ordered found ready (advances k library c env d l at e) places =
    by_outcome w r k library c env (record { consistent = con; ordered = ordered; found = found; definition = d; library_there = l; stands = at; environment = e })
    (advance library k r.depth env c) refl places
turn_accepted poll now w r a cs con ordered found ready (binds k c d is at) places = binding_accepted w now r k c con found ready d is at places.batches

-- room for the world after changes, where there are some
room_of : (w : World) (cs : List Change) → (cs ≢ [] → HasPlaces w (length (after_changes w cs).nodes)) → cs ≢ [] → HasPlaces w (length (applied w cs).nodes)
room_of w [] room some = absurd (some refl)
room_of w (c ∷ cs) room some = room some

pub events_are_accepted : EventsAreAccepted
events_are_accepted poll w e all reached ordered (machine.submits library caching name inputs cs s) room some =
    submissions_are_accepted w library caching name inputs cs reached s (subst (HasPlaces w) (nodes_then w library caching name inputs cs s) (room_of w cs room some))
events_are_accepted poll w e all reached ordered (turns r a now cs found ready gives) room some =
    turn_accepted poll now w r a cs (reached_is_consistent w reached) (found_holds (λ x. OutputsAscend x.part) r.node w.records r ordered found) found ready gives (room_of w cs room some)
events_are_accepted poll w e cs reached ordered (pauses r live) room some =
    pause_accepted w (reached_is_consistent w reached) r live.found live.live (room_of w cs room some).batches some
events_are_accepted poll w e cs reached ordered (plays r live) room some =
    play_accepted w (reached_is_consistent w reached) r live.found live.live (room_of w cs room some).batches some
events_are_accepted poll w e cs reached ordered (kills r live) room some =
    kill_accepted w (reached_is_consistent w reached) r live (room_of w cs room some).batches
