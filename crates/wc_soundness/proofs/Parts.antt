-- The changes of an event: none is a Count or a Kept, and each Set has a part whose outputs are in order.
use Rattle.std.proofs.Common.{◌≡◌, ℕ, ℤ, zero, suc, ◌+◌, Bool, true, false, Option, Some, None, List, [], ◌∷◌, ◌++◌, length, map, sym, subst}
use Rattle.std.specs.List.{AllByRecursion}
use Rattle.std.specs.Prelude.{All, if◌then◌else◌, flat_map}
use Rattle.std.proofs.lemmas.List.Elements.{All-cons, All-nil, All-push, All-weaker}
use Rattle.wc_value.specs.Ascending.{Ascends}
use Rattle.wc_value.specs.declared.process.ProcessState.{ProcessState}
use Rattle.wc_value.specs.declared.process.ProcessState.TheVariants as state
use Rattle.wc_syntax.specs.declared.definition.Chain.{Chain}
use Rattle.wc_syntax.specs.declared.definition.Definition.{Definition}
use Rattle.wc_syntax.specs.declared.definition.Port.{Port}
use Rattle.wc_graph.specs.declared.link.Link.{Link}
use Rattle.wc_graph.specs.declared.link.LinkType.{LinkType}
use Rattle.wc_semantics.specs.Outcomes.{calculated, excepted, parsed}
use Rattle.wc_semantics.specs.Rules.{Values}
use Rattle.wc_semantics.specs.declared.outcomes.Parsed.{Parsed}
use Rattle.wc_state.specs.declared.environment.Env.{Env}
use Rattle.wc_state.specs.declared.record.Await.{Await}
use Rattle.wc_state.specs.declared.record.Checkpoint.{Checkpoint}
use Rattle.wc_state.specs.declared.record.JobPart.{JobPart}
use Rattle.wc_state.specs.declared.record.Part.{Part}
use Rattle.wc_state.specs.declared.record.Part.TheVariants as part
use Rattle.wc_state.specs.declared.record.ProcessRecord.{ProcessRecord}
use Rattle.wc_semantics.specs.Tables.{Label}
use Rattle.wc_world.specs.declared.change.Change.{Change}
use Rattle.wc_world.specs.declared.change.Change.TheVariants as change
use Rattle.wc_world.specs.World.{World}
use Rattle.wc_world.specs.Applied.{after_change, begun, changed, made, next_number, set}
use Rattle.wc_world.specs.Records.{find_record, has_ended, is_call_from, kind_of_definition}
use Rattle.wc_world.proofs.FoundRecords.{found_holds}
use Rattle.wc_world.proofs.ReachedLists.{all_at_apart}
use Rattle.wc_machine.specs.declared.answer.TaskAnswer.{TaskAnswer}
use Rattle.wc_machine.specs.Advances.{Advanced, goes, loops, submits, ends, advance}
use Rattle.wc_machine.specs.Calls.{Arguments, advanced, argument_links, awaits, bound, called_number, calls_changes, call_changes, call_link, chain_set, judged, kept_outputs, kind_of_callee, plain_data, returns, with_awaits}
use Rattle.wc_machine.specs.Ends as ending
use Rattle.wc_machine.specs.Ends.{creations, end_of}
use Rattle.wc_machine.specs.Kills.{ends_killed, fuel_after, kill_below, killed}
use Rattle.wc_machine.specs.Machine as machine
use Rattle.wc_machine.specs.Machine.{Event, Leads, turns, pauses, plays, kills, after_changes, marked, pause_changes, play_changes, renewed}
use Rattle.wc_machine.specs.Recorded.{recorded_inputs}
use Rattle.wc_machine.specs.Sound.{OutputsAscend}
use Rattle.wc_machine.specs.Steps.{Call, node, plain}
use Rattle.wc_machine.specs.Submissions.{data_change, input_link, links_from, submitted_number}
use Rattle.wc_machine.specs.Turns.{StandsAt, TurnGives, first_task, calculates, clones, begins, excepts, gives_up, moves, parses, advances, binds}
use Rattle.wc_turn_laws.specs.OutlineLaws.{AreOrdered}
use Rattle.wc_turn_laws.proofs.Ordered.{advances_keep_order, none_ascends}
use Rattle.wc_soundness.specs.Submitted.{child_of}
use Rattle.wc_machine.proofs.Submitted.{new_process}
use Rattle.wc_soundness.specs.AcceptedLaws.{EventsArePlain, EventsKeepOrder, IsOrdered, IsPlain}

-- a change that is neither a Count nor a Kept, and sets a process to a part of which this holds
abbrev pub SetsTo : (Part → Type 0) → Change → Type 0
SetsTo P (change.Library l names) = Unit {0}
SetsTo P (change.Data v) = Unit {0}
SetsTo P (change.Process n) = Unit {0}
SetsTo P (change.Link l) = Unit {0}
SetsTo P (change.Set s) = P s.part
SetsTo P (change.Count n) = ⊥
SetsTo P (change.Kept k) = ⊥

all_of : {A : Type 0} (P : A → Type 0) (xs : List A) → AllByRecursion P xs → All P xs
all_of P [] h = All-nil P
all_of P (x ∷ xs) h = All-cons P x xs h.0 (all_of P xs h.1)

module _ (P : Part → Type 0) where
  abbrev Each : List Change → Type 0
  Each = AllByRecursion (SetsTo P)

  both : (xs ys : List Change) → Each xs → Each ys → Each (xs ++ ys)
  both [] ys h g = g
  both (x ∷ xs) ys h g = (h.0, both xs ys h.1 g)

  if_some : (b : Bool) (cs : List Change) → Each cs → Each (if b then cs else [])
  if_some true cs h = h
  if_some false cs h = tt

  if_none : (b : Bool) (cs : List Change) → Each cs → Each (if b then [] else cs)
  if_none true cs h = tt
  if_none false cs h = h

  -- ---- submissions

  data_sets : (inputs : Values) → Each (map data_change inputs)
  data_sets [] = tt
  data_sets (i ∷ is) = (tt, data_sets is)

  links_set : (type : LinkType) (source pid : ℕ) (inputs : Values) → Each (links_from type source pid inputs)
  links_set type source pid [] = tt
  links_set type source pid (i ∷ is) = (tt, links_set type (suc source) pid is)

  -- ---- ends of calculations

  creations_set : (next pid : ℕ) (os : Values) → Each (creations next pid os)
  creations_set next pid [] = tt
  creations_set next pid (o ∷ os) = (tt, (tt, creations_set (suc next) pid os))

  ends_set : P part.Over → (w : World) (r : ProcessRecord) (p : Parsed) (source : Option ℕ) (code : Option ℤ) → Each (ending.ends w r p source code)
  ends_set over w r p source code =
      both (creations (length w.nodes + 1) r.node p.outputs) (end_of r p source code ∷ []) (creations_set (length w.nodes + 1) r.node p.outputs) (over, tt)

  -- ---- calls

  plain_sets : (args : Arguments) → Each (plain_data args)
  plain_sets [] = tt
  plain_sets ((port, node n) ∷ rest) = plain_sets rest
  plain_sets ((port, plain v) ∷ rest) = (tt, plain_sets rest)

  arguments_set : (type : LinkType) (next pid : ℕ) (args : Arguments) → Each (argument_links type next pid args)
  arguments_set type next pid [] = tt
  arguments_set type next pid ((port, node n) ∷ rest) = (tt, arguments_set type next pid rest)
  arguments_set type next pid ((port, plain v) ∷ rest) = (tt, arguments_set type (suc next) pid rest)

  module _ (w : World) (r : ProcessRecord) where
    call_sets : (next : ℕ) (c : Call) → Each (call_changes w r next c)
    call_sets next c =
        let links : List Change = argument_links (input_link (kind_of_callee w r c)) next (called_number w r next c) c.args in
        let own : Change = change.Link (record { source = r.node; target = called_number w r next c; link = call_link (kind_of_callee w r c); label = c.label }) in
        both (plain_data c.args) (change.Process (child_of w r c) ∷ (links ++ own ∷ [])) (plain_sets c.args)
        (tt, both links (own ∷ []) (arguments_set (input_link (kind_of_callee w r c)) next (called_number w r next c) c.args) (tt, tt))

    calls_set : (next : ℕ) (cs : List Call) → Each (calls_changes w r next cs)
    calls_set next [] = tt
    calls_set next (c ∷ cs) =
        let further : ℕ = suc (called_number w r next c) in
        both (call_changes w r next c) (calls_changes w r further cs) (call_sets next c) (calls_set further cs)

    returns_set : (os : List (Label × ℕ)) → Each (returns w r os)
    returns_set [] = tt
    returns_set (o ∷ os) = (tt, returns_set os)

    kept_set : (s : ProcessState) (os : List (Label × ℕ)) → Each (kept_outputs w r s os)
    kept_set state.Created os = tt
    kept_set state.Running os = tt
    kept_set state.Waiting os = tt
    kept_set (state.Finished n) os = returns_set os
    kept_set (state.Excepted reason) os = tt
    kept_set state.Killed os = tt

  -- what is asked of the part of a chain that an advance comes to
  abbrev OfAdvance : Advanced → Type 0
  OfAdvance (goes d) = P (part.Chain d)
  OfAdvance (loops d) = P (part.Chain d)
  OfAdvance (submits d calls) = (awaiting : List Await) (n : ℕ) → P (part.Chain (record { frames = d.frames; ctx = d.ctx; awaiting = awaiting; calls = n; outputs = d.outputs }))
  OfAdvance (ends s outputs) = P part.Over

  advanced_sets : (w : World) (r : ProcessRecord) (ports : List Port) (x : Advanced) → OfAdvance x → Each (advanced w r ports x)
  advanced_sets w r ports (goes d) h = (h, tt)
  advanced_sets w r ports (loops d) h = (h, tt)
  advanced_sets w r ports (submits d calls) h =
      let next : ℕ = length w.nodes + 1 in
      both (calls_changes w r next calls) (chain_set w r state.Waiting r.fuel (part.Chain (with_awaits w r d (awaits w r next calls) (d.calls + length calls))) ∷ [])
      (calls_set w r next calls) (h (awaits w r next calls) (d.calls + length calls), tt)
  advanced_sets w r ports (ends s outputs) h =
      both (kept_outputs w r s outputs) (chain_set w r (judged w r ports s outputs) r.fuel part.Over ∷ []) (kept_set w r s outputs) (h, tt)

  module _ (over : P part.Over) where
    -- ---- kills

    own_sets : (w : World) (r : ProcessRecord) → Each (ends_killed w r)
    own_sets w r = if_none (has_ended r.state) (killed r (fuel_after 16 w (Some r)) ∷ []) (over, tt)

    below_sets : (pid : ℕ) (f : ℕ → List Change) → ((n : ℕ) → Each (f n)) → (ls : List Link) → Each (flat_map (λ l. if is_call_from pid l then f l.target else []) ls)
    below_sets pid f h [] = tt
    below_sets pid f h (l ∷ ls) =
        both (if is_call_from pid l then f l.target else []) (flat_map (λ l. if is_call_from pid l then f l.target else []) ls)
        (if_some (is_call_from pid l) (f l.target) (h l.target)) (below_sets pid f h ls)

    kill_sets : (levels : ℕ) (w : World) (o : Option ProcessRecord) → Each (kill_below levels w o)
    kill_sets zero w None = tt
    kill_sets zero w (Some r) = own_sets w r
    kill_sets (suc levels) w None = tt
    kill_sets (suc levels) w (Some r) =
        both (flat_map (λ l. if is_call_from r.node l then kill_below levels w (find_record l.target w.records) else []) w.links) (ends_killed w r)
        (below_sets r.node (λ n. kill_below levels w (find_record n w.records)) (λ n. kill_sets levels w (find_record n w.records)) w.links) (own_sets w r)

    -- ---- events

    module _ (job : (j : JobPart) → P (part.Job j)) (bind : (c : Checkpoint) → P (part.Chain c) → P (part.Chain (bound c))) where
      turn_sets : (poll now : ℕ) (w : World) (r : ProcessRecord) (a : TaskAnswer) (cs : List Change) → TurnGives poll now w r a cs → P r.part
          → ((library : List Definition) (k : Chain) (env : Env) (c : Checkpoint) → StandsAt r.state r.part c → OfAdvance (advance library k r.depth env c)) → Each cs
      turn_sets poll now w r a cs (calculates f d is takes) held of_chain = ends_set over w r (calculated f (recorded_inputs w r.node)) None None
      turn_sets poll now w r a cs (clones q calc is takes there) held of_chain = ends_set over w r (ending.come_to w q) (Some q.node) None
      turn_sets poll now w r a cs (begins j q d is takes asked) held of_chain = (job first_task, tt)
      turn_sets poll now w r a cs (excepts j reason d is takes asked) held of_chain = ends_set over w r (excepted reason []) None None
      turn_sets poll now w r a cs (gives_up j p reason d at asked) held of_chain = ends_set over w r (excepted reason []) None None
      turn_sets poll now w r a cs (moves j p q answer m d at asked next) held of_chain = (job m.part, tt)
      turn_sets poll now w r a cs (parses j p q result d at asked is) held of_chain = ends_set over w r (parsed j (recorded_inputs w r.node) result) None (Some result.code)
      turn_sets poll now w r a cs (advances k library c env d l at e) held of_chain =
          advanced_sets w r k.head.outputs (advance library k r.depth env c) (of_chain library k env c at)
      turn_sets poll now w r a cs (binds k c d is at) held of_chain = (bind c (subst P at held), tt)

      renewed_set : (p : Part) → P p → P (renewed p)
      renewed_set part.Fresh h = h
      renewed_set (part.Chain c) h = h
      renewed_set (part.Job j) h = job (record { task = j.task; fails = 0; due = 0 })
      renewed_set part.Over h = h

      -- So each Set of an event has a part of which this holds, where it holds of the parts of the world and of what an advance comes to.
      event_sets : (poll : ℕ) (w : World) (e : Event) (cs : List Change) → Leads poll w e cs → ((r : ProcessRecord) → find_record r.node w.records ≡ Some r → P r.part)
          → ((r : ProcessRecord) → P r.part → (library : List Definition) (k : Chain) (env : Env) (c : Checkpoint) → StandsAt r.state r.part c
          → OfAdvance (advance library k r.depth env c)) → Each cs
      event_sets poll w e cs (machine.submits library caching name inputs all s) held of_chain =
          let type : LinkType = input_link (kind_of_definition s.definition) in
          let links : List Change = links_from type (length w.nodes + 1) (submitted_number w inputs) inputs in
          subst Each (sym s.changes) (
            tt,
            both (map data_change inputs) (change.Process (new_process w library caching name inputs s.definition) ∷ links) (data_sets inputs)
                (tt, links_set type (length w.nodes + 1) (submitted_number w inputs) inputs),
          )
      event_sets poll w e cs (turns r a now all found ready gives) held of_chain = turn_sets poll now w r a all gives (held r found) (of_chain r (held r found))
      event_sets poll w e cs (pauses r live) held of_chain = if_none r.paused (marked r true r.part ∷ []) (held r live.found, tt)
      event_sets poll w e cs (plays r live) held of_chain = if_some r.paused (marked r false (renewed r.part) ∷ []) (renewed_set r.part (held r live.found), tt)
      event_sets poll w e cs (kills r live) held of_chain = kill_sets 16 w (Some r)

-- ---- none is a Count or a Kept

plain_set : (c : Change) → SetsTo (λ p. Unit {0}) c → IsPlain c
plain_set (change.Library l names) h = tt
plain_set (change.Data v) h = tt
plain_set (change.Process n) h = tt
plain_set (change.Link l) h = tt
plain_set (change.Set s) h = tt
plain_set (change.Count n) h = h
plain_set (change.Kept k) h = h

anything : (x : Advanced) → OfAdvance (λ p. Unit {0}) x
anything (goes d) = tt
anything (loops d) = tt
anything (submits d calls) = λ awaiting n. tt
anything (ends s outputs) = tt

pub events_are_plain : EventsArePlain
events_are_plain poll w e cs leads =
    All-weaker (SetsTo (λ p. Unit {0})) IsPlain plain_set cs
    (all_of (SetsTo (λ p. Unit {0})) cs
    (event_sets (λ p. Unit {0}) tt (λ j. tt) (λ c h. tt) poll w e cs leads (λ r found. tt) (λ r held library k env c at. anything (advance library k r.depth env c))))

-- ---- outputs stay in order

ordered_set : (batch : ℕ) (w : World) (c : Change) → SetsTo OutputsAscend c → IsOrdered w → IsOrdered (after_change batch w c)
ordered_set batch w (change.Library l names) h all = all
ordered_set batch w (change.Data v) h all = all
ordered_set batch w (change.Process n) h all = All-push (λ r. OutputsAscend r.part) w.records (made (next_number w) n) all tt
ordered_set batch w (change.Link l) h all = all
ordered_set batch w (change.Set s) h all = all_at_apart (λ r. OutputsAscend r.part) s.pid (set batch s) w.records (λ i d lt ne. all i d lt) (λ i d lt e. h)
ordered_set batch w (change.Count n) h all = absurd h
ordered_set batch w (change.Kept k) h all = absurd h

ordered_after : (batch : ℕ) (w : World) (cs : List Change) → AllByRecursion (SetsTo OutputsAscend) cs → IsOrdered w → IsOrdered (changed batch w cs)
ordered_after batch w [] h all = all
ordered_after batch w (c ∷ cs) h all = ordered_after batch (after_change batch w c) cs h.1 (ordered_set batch w c h.0 all)

ordered_by : (w : World) (cs : List Change) → AllByRecursion (SetsTo OutputsAscend) cs → IsOrdered w → IsOrdered (after_changes w cs)
ordered_by w [] h all = all
ordered_by w (c ∷ cs) h all = ordered_after (w.batches + 1) (begun w) (c ∷ cs) h all

of_ordered : (x : Advanced) → AreOrdered x → OfAdvance OutputsAscend x
of_ordered (goes d) h = h
of_ordered (loops d) h = h
of_ordered (submits d calls) h = λ awaiting n. h.0
of_ordered (ends s outputs) h = tt

-- a chain stands where the outputs ascend
pub ascend_at : (s : ProcessState) (p : Part) (c : Checkpoint) → StandsAt s p c → OutputsAscend p → Ascends c.outputs
ascend_at state.Created part.Fresh c at h = subst (λ (x : Checkpoint). Ascends x.outputs) (sym at) (none_ascends ℕ)
ascend_at state.Created (part.Chain d) c at h = absurd at
ascend_at state.Created (part.Job j) c at h = absurd at
ascend_at state.Created part.Over c at h = absurd at
ascend_at state.Running part.Fresh c at h = absurd at
ascend_at state.Running (part.Chain d) c at h = subst (λ (x : Checkpoint). Ascends x.outputs) (sym at) h
ascend_at state.Running (part.Job j) c at h = absurd at
ascend_at state.Running part.Over c at h = absurd at
ascend_at state.Waiting p c at h = absurd at
ascend_at (state.Finished n) p c at h = absurd at
ascend_at (state.Excepted r) p c at h = absurd at
ascend_at state.Killed p c at h = absurd at

pub events_keep_order : EventsKeepOrder
events_keep_order = (All-nil (λ (r : ProcessRecord). OutputsAscend r.part), keep)
  where
    keep : (poll : ℕ) (w : World) (e : Event) (cs : List Change) → IsOrdered w → Leads poll w e cs → IsOrdered (after_changes w cs)
    keep poll w e cs all leads =
        ordered_by w cs
        (event_sets OutputsAscend tt (λ j. tt) (λ c h. h) poll w e cs leads (λ r found. found_holds (λ x. OutputsAscend x.part) r.node w.records r all found)
        (λ r held library k env c at.
        of_ordered (advance library k r.depth env c) (advances_keep_order library k r.depth env c (ascend_at r.state r.part c at held)))) all
