-- The turn of a process leaves each other one as it was, and what it needs.
use Rattle.std.proofs.Common.{◌≡◌, ◌≢◌, ℕ, ℤ, zero, suc, ◌+◌, ◌<◌, ◌≤◌, Bool, true, false, cond, Option, Some, None, List, [], ◌∷◌, ◌++◌, map, length, refl, sym, ap, subst, ◌∙◌, arith}
use Rattle.std.specs.Prelude.{All, ◌==◌, ◌&&◌, if◌then◌else◌, option_map, option_and_then}
use Rattle.std.specs.List.{AllByRecursion}
use Rattle.std.proofs.lemmas.Bool.{ne_eqb, cond-false}
use Rattle.std.proofs.lemmas.List.{append-nil, append_assoc}
use Rattle.std.proofs.lemmas.List.Elements.{All-nil, All-cons, All-append}
use Rattle.wc_value.specs.declared.process.ProcessState.{ProcessState}
use Rattle.wc_value.specs.declared.process.ProcessState.TheVariants as state
use Rattle.wc_syntax.specs.Findings.{definition_named}
use Rattle.wc_syntax.specs.declared.definition.Definition.{Definition}
use Rattle.wc_syntax.specs.declared.definition.Port.{Port}
use Rattle.wc_graph.specs.declared.link.Link.{Link}
use Rattle.wc_graph.specs.declared.link.LinkType.{LinkType}
use Rattle.wc_graph.specs.declared.node.NodeKind.{NodeKind}
use Rattle.wc_graph.specs.declared.node.NodeKind.TheVariants as node_kind
use Rattle.wc_semantics.specs.Outcomes.{excepted, calculated, parsed}
use Rattle.wc_semantics.specs.Rules.{Values}
use Rattle.wc_semantics.specs.Tables.{Label}
use Rattle.wc_semantics.specs.declared.outcomes.Parsed.{Parsed}
use Rattle.wc_state.specs.declared.record.Checkpoint.{Checkpoint}
use Rattle.wc_state.specs.declared.record.ProcessKind.{ProcessKind}
use Rattle.wc_state.specs.declared.record.ProcessKind.TheVariants as kind
use Rattle.wc_state.specs.declared.record.ProcessRecord.{ProcessRecord}
use Rattle.wc_world.specs.declared.change.Change.{Change}
use Rattle.wc_records.specs.declared.change.SetProcess.{SetProcess}
use Rattle.wc_world.specs.declared.change.Change.TheVariants as change
use Rattle.wc_world.specs.World.{World, Known}
use Rattle.wc_world.specs.Accepted.{IsReached}
use Rattle.wc_world.specs.Applied.{after_change, applied, begun, changed, made, next_number, set}
use Rattle.wc_world.specs.Consistent.{IsConsistent}
use Rattle.wc_world.specs.Laws.{ReachedIsConsistent}
use Rattle.wc_world.specs.Records.{calls, find_record, is_input_of, library_at, process_node, takes_input}
use Rattle.wc_world.specs.Trees.{inputs_after, values_alone}
use Rattle.wc_world.proofs.FoundRecords.{found_holds}
use Rattle.wc_world.proofs.ReachedLists.{at_one, at_one_keeps, find_mapped, found_node}
use Rattle.wc_machine.specs.declared.answer.TaskAnswer.{TaskAnswer}
use Rattle.wc_machine.specs.Advances.{Advanced, goes, loops, submits, ends, advance}
use Rattle.wc_machine.specs.Calls.{Arguments, advanced, argument_links, call_changes, call_link, called_number, calls_changes, kept_outputs, kind_of_callee, plain_data, returns}
use Rattle.wc_machine.specs.Ends as ending
use Rattle.wc_machine.specs.Ends.{creations}
use Rattle.wc_machine.specs.Machine.{Event, Leads, submit, turn, pause, play, kill, turns, pauses, plays, kills}
use Rattle.wc_machine.specs.Machine as machine
use Rattle.wc_machine.specs.Questions.{need, need_at}
use Rattle.wc_machine.specs.Recorded.{recorded_inputs, request_by}
use Rattle.wc_machine.specs.Steps.{Call, node, plain}
use Rattle.wc_machine.specs.Submissions.{input_link}
use Rattle.wc_machine.specs.Turns.{TurnGives, calculates, clones, begins, excepts, gives_up, moves, parses, advances, binds}
use Rattle.wc_machine.proofs.Frames.{NoInput, and_false, inputs_stay, records_below}
use Rattle.wc_pool.specs.Laws.{TurnsLeaveOthers}

-- ---- changes that spare a process

call_is_no_input : (k : ProcessKind) → takes_input (call_link k) ≡ false
call_is_no_input kind.Function = refl
call_is_no_input kind.Job = refl
call_is_no_input kind.Chain = refl

module _ (q : ℕ) where
  -- a change neither sets this process nor adds a link into it, and takes in no library
  abbrev Spares : Change → Type 0
  Spares (change.Library l names) = ⊥
  Spares (change.Data v) = Unit {0}
  Spares (change.Process n) = Unit {0}
  Spares (change.Link l) = is_input_of q l ≡ false
  Spares (change.Set s) = q ≢ s.pid
  Spares (change.Count n) = ⊥
  Spares (change.Kept k) = ⊥

  abbrev AllSpare : List Change → Type 0
  AllSpare = AllByRecursion Spares

  both : (xs ys : List Change) → AllSpare xs → AllSpare ys → AllSpare (xs ++ ys)
  both [] ys h g = g
  both (x ∷ xs) ys h g = (h.0, both xs ys h.1 g)

  creations_spare : (next pid : ℕ) (os : Values) → AllSpare (creations next pid os)
  creations_spare next pid [] = tt
  creations_spare next pid (o ∷ os) = (tt, (refl, creations_spare (suc next) pid os))

  data_spare : (args : Arguments) → AllSpare (plain_data args)
  data_spare [] = tt
  data_spare ((port, node n) ∷ rest) = data_spare rest
  data_spare ((port, plain v) ∷ rest) = (tt, data_spare rest)

  arguments_spare : (type : LinkType) (next pid : ℕ) → pid ≢ q → (args : Arguments) → AllSpare (argument_links type next pid args)
  arguments_spare type next pid ne [] = tt
  arguments_spare type next pid ne ((port, node n) ∷ rest) =
      (and_false (takes_input type) (pid == q) (ne_eqb pid q ne), arguments_spare type next pid ne rest)
  arguments_spare type next pid ne ((port, plain v) ∷ rest) =
      (and_false (takes_input type) (pid == q) (ne_eqb pid q ne), arguments_spare type (suc next) pid ne rest)

  module _ (w : World) (r : ProcessRecord) where
    ends_spare : q ≢ r.node → (p : Parsed) (source : Option ℕ) (code : Option ℤ) → AllSpare (ending.ends w r p source code)
    ends_spare ne p source code =
        both (creations (length w.nodes + 1) r.node p.outputs) (ending.end_of r p source code ∷ []) (creations_spare (length w.nodes + 1) r.node p.outputs) (ne, tt)

    call_spare : (next : ℕ) → q < next → (c : Call) → AllSpare (call_changes w r next c)
    call_spare next lt c =
        let new : called_number w r next c ≢ q = λ e. absurd (omega (arith, e)) in
        both (plain_data c.args) _ (data_spare c.args) (
          tt,
          both (argument_links _ next (called_number w r next c) c.args) _
              (arguments_spare (input_link (kind_of_callee w r c)) next (called_number w r next c) new c.args)
              (ap (λ (b : Bool). b && (called_number w r next c == q)) (call_is_no_input (kind_of_callee w r c)), tt),
        )

    calls_spare : (next : ℕ) → q < next → (cs : List Call) → AllSpare (calls_changes w r next cs)
    calls_spare next lt [] = tt
    calls_spare next lt (c ∷ cs) =
        let further : ℕ = suc (called_number w r next c) in
        both (call_changes w r next c) (calls_changes w r further cs) (call_spare next lt c) (calls_spare further (omega arith) cs)

    returns_spare : (os : List (Label × ℕ)) → AllSpare (returns w r os)
    returns_spare [] = tt
    returns_spare (o ∷ os) = (refl, returns_spare os)

    kept_spare : (s : ProcessState) (os : List (Label × ℕ)) → AllSpare (kept_outputs w r s os)
    kept_spare state.Created os = tt
    kept_spare state.Running os = tt
    kept_spare state.Waiting os = tt
    kept_spare (state.Finished n) os = returns_spare os
    kept_spare (state.Excepted reason) os = tt
    kept_spare state.Killed os = tt

    advanced_spares : q ≢ r.node → q ≤ length w.nodes → (ports : List Port) (x : Advanced) → AllSpare (advanced w r ports x)
    advanced_spares ne le ports (goes d) = (ne, tt)
    advanced_spares ne le ports (loops d) = (ne, tt)
    advanced_spares ne le ports (submits d calls) =
        both (calls_changes w r (length w.nodes + 1) calls) _ (calls_spare (length w.nodes + 1) (omega arith) calls) (ne, tt)
    advanced_spares ne le ports (ends s outputs) = both (kept_outputs w r s outputs) _ (kept_spare s outputs) (ne, tt)

    turn_spares : (poll now : ℕ) (a : TaskAnswer) (cs : List Change) → q ≢ r.node → q ≤ length w.nodes → TurnGives poll now w r a cs → AllSpare cs
    turn_spares poll now a cs ne le (calculates f d is takes) = ends_spare ne (calculated f (recorded_inputs w r.node)) None None
    turn_spares poll now a cs ne le (clones p calc is takes there) = ends_spare ne (ending.come_to w p) (Some p.node) None
    turn_spares poll now a cs ne le (begins j p d is takes asked) = (ne, tt)
    turn_spares poll now a cs ne le (excepts j reason d is takes asked) = ends_spare ne (excepted reason []) None None
    turn_spares poll now a cs ne le (gives_up j p reason d at asked) = ends_spare ne (excepted reason []) None None
    turn_spares poll now a cs ne le (moves j p x b m d at asked next) = (ne, tt)
    turn_spares poll now a cs ne le (parses j p x result d at asked is) = ends_spare ne (parsed j (recorded_inputs w r.node) result) None (Some result.code)
    turn_spares poll now a cs ne le (advances k library c env d l at e) = advanced_spares ne le k.head.outputs (advance library k r.depth env c)
    turn_spares poll now a cs ne le (binds k c d is at) = (ne, tt)

-- ---- what they leave

found_front : (q : ℕ) (m r : ProcessRecord) (rs : List ProcessRecord) → find_record q rs ≡ Some r → find_record q (rs ++ m ∷ []) ≡ Some r
found_front q m r [] h = absurd (cc)
found_front q m r (x ∷ rs) h = at (x.node == q) (found_front q m r rs) h
  where
    at : (b : Bool) → (find_record q rs ≡ Some r → find_record q (rs ++ m ∷ []) ≡ Some r) → (if b then Some x else find_record q rs) ≡ Some r
        → (if b then Some x else find_record q (rs ++ m ∷ [])) ≡ Some r
    at true rest e = e
    at false rest e = rest e

module _ (w : World) (r : ProcessRecord) where
  -- Lists grow, no new link leads into the process, its record stays, and so do the libraries.
  record Leaves (u : World) : Type 0 where
    libraries : u.libraries ≡ w.libraries
    nodes : List NodeKind
    after : u.nodes ≡ w.nodes ++ nodes
    links : List Link
    behind : u.links ≡ w.links ++ links
    no_input : NoInput r.node links
    found : find_record r.node u.records ≡ Some r

  more_nodes : (u : World) (k : NodeKind) → (l : Leaves u) → u.nodes ++ k ∷ [] ≡ w.nodes ++ (l.nodes ++ k ∷ [])
  more_nodes u k l = ap (λ (ns : List NodeKind). ns ++ k ∷ []) l.after ∙ append_assoc w.nodes l.nodes (k ∷ [])

  set_leaves : (b : ℕ) (s : SetProcess) → r.node ≢ s.pid → (rs : List ProcessRecord) → find_record r.node rs ≡ Some r
      → find_record r.node (map (at_one s.pid (set b s)) rs) ≡ Some r
  set_leaves b s ne rs h =
      find_mapped (at_one s.pid (set b s)) (at_one_keeps (λ (x : ProcessRecord). x.node) (set b s) (λ x. refl) s.pid) r.node rs
      ∙ ap (option_map (at_one s.pid (set b s))) h
      ∙ ap (λ (c : Bool). Some (if c then set b s r else r)) (ne_eqb r.node s.pid ne)

  one_leaves : (b : ℕ) (u : World) (c : Change) → Spares r.node c → Leaves u → Leaves (after_change b u c)
  one_leaves b u (change.Library l names) h g = absurd h
  one_leaves b u (change.Data v) h g = record {
    libraries = g.libraries;
    nodes = g.nodes ++ node_kind.Data v ∷ [];
    after = more_nodes u (node_kind.Data v) g;
    links = g.links;
    behind = g.behind;
    no_input = g.no_input;
    found = g.found;
  }
  one_leaves b u (change.Process n) h g = record {
    libraries = g.libraries;
    nodes = g.nodes ++ process_node n.kind ∷ [];
    after = more_nodes u (process_node n.kind) g;
    links = g.links;
    behind = g.behind;
    no_input = g.no_input;
    found = found_front r.node (made (next_number u) n) r u.records g.found;
  }
  one_leaves b u (change.Link l) h g = record {
    libraries = g.libraries;
    nodes = g.nodes;
    after = g.after;
    links = g.links ++ l ∷ [];
    behind = ap (λ (ls : List Link). ls ++ l ∷ []) g.behind ∙ append_assoc w.links g.links (l ∷ []);
    no_input = All-append (λ x. is_input_of r.node x ≡ false) g.links (l ∷ []) g.no_input (All-cons (λ x. is_input_of r.node x ≡ false) l [] h (All-nil (λ x. is_input_of r.node x ≡ false)));
    found = g.found;
  }
  one_leaves b u (change.Set s) h g = record {
    libraries = g.libraries;
    nodes = g.nodes;
    after = g.after;
    links = g.links;
    behind = g.behind;
    no_input = g.no_input;
    found = set_leaves b s h u.records g.found;
  }
  one_leaves b u (change.Count n) h g = absurd h
  one_leaves b u (change.Kept k) h g = absurd h

  all_leave : (b : ℕ) (u : World) (cs : List Change) → AllSpare r.node cs → Leaves u → Leaves (changed b u cs)
  all_leave b u [] h g = g
  all_leave b u (c ∷ cs) h g = all_leave b (after_change b u c) cs h.1 (one_leaves b u c h.0 g)

  itself : find_record r.node w.records ≡ Some r → Leaves (begun w)
  itself found = record {
    libraries = refl;
    nodes = [];
    after = sym (append-nil w.nodes);
    links = [];
    behind = sym (append-nil w.links);
    no_input = All-nil (λ x. is_input_of r.node x ≡ false);
    found = found;
  }

  same_need : IsConsistent w → (u : World) → Leaves u → need u r ≡ need w r
  same_need c u g =
      λ i. need_at r.state r.part (request_by (option_and_then (definition_named r.definition) (library_at (g.libraries i) r.library)) (inputs i))
    where
      inputs : recorded_inputs u r.node ≡ recorded_inputs w r.node
      inputs =
          (λ i. values_alone (inputs_after (g.after i) r.node (g.behind i) []))
          ∙ ap values_alone (inputs_stay w.nodes g.nodes r.node w.links g.links c.links.ends g.no_input)

-- ---- the turn of another process

-- the process with this number is found, and its turn gives these changes
abbrev GivesTurn : ℕ → World → Event → List Change → Type 0
GivesTurn poll w (submit library caching name inputs) cs = Unit {0}
GivesTurn poll w (turn pid a now) cs = (r : ProcessRecord) × (r.node ≡ pid) × TurnGives poll now w r a cs
GivesTurn poll w (pause pid) cs = Unit {0}
GivesTurn poll w (play pid) cs = Unit {0}
GivesTurn poll w (kill pid) cs = Unit {0}

gives_turn : (poll : ℕ) (w : World) (e : Event) (cs : List Change) → Leads poll w e cs → GivesTurn poll w e cs
gives_turn poll w e cs (machine.submits library caching name inputs ds s) = tt
gives_turn poll w e cs (turns r a now ds found ready gives) = (r, refl, gives)
gives_turn poll w e cs (pauses r live) = tt
gives_turn poll w e cs (plays r live) = tt
gives_turn poll w e cs (kills r live) = tt

within : (w : World) → IsConsistent w → (r : ProcessRecord) → find_record r.node w.records ≡ Some r → r.node ≤ length w.nodes
within w c r found =
    let lt : r.node < suc (length w.nodes) = found_holds (λ x. x.node < suc (length w.nodes)) r.node w.records r (records_below w.nodes w.records c.numbered) found in
    omega arith

pub turns_leave_others : ReachedIsConsistent → TurnsLeaveOthers
turns_leave_others reached poll w pid now a cs reaches leads r found ne =
    let c = reached w reaches in
    let given = gives_turn poll w (turn pid a now) cs leads in
    let spare : AllSpare r.node cs = turn_spares r.node w given.0 poll now a cs (λ e. ne (e ∙ given.1)) (within w c r found) given.2 in
    let left : Leaves w r (applied w cs) = all_leave w r (w.batches + 1) (begun w) cs spare (itself w r found) in
    (left.found, same_need w r c (applied w cs) left)
