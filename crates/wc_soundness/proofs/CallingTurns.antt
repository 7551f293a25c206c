-- A chain of a sound world that submits calls: its record is sound afterwards, and so is the world.
use Rattle.std.proofs.Common.{◌≡◌, ℕ, List, ◌++◌, length, Option, Some, refl, sym, ap, subst, ◌∙◌}
use Rattle.std.specs.Prelude.{All}
use Rattle.std.proofs.lemmas.List.Elements.{All-nil, filter-append}
use Rattle.wc_syntax.specs.declared.definition.Chain.{Chain}
use Rattle.wc_syntax.specs.declared.definition.Definition.{Definition}
use Rattle.wc_graph.specs.declared.link.Link.{Link}
use Rattle.wc_semantics.specs.Meaning.{around, ended, within}
use Rattle.wc_semantics.specs.Run.{Around}
use Rattle.wc_semantics.specs.Tables.{Label, Table, Kills}
use Rattle.wc_state.specs.declared.environment.Env.{Env}
use Rattle.wc_state.specs.declared.environment.NodeValue.{NodeValue}
use Rattle.wc_state.specs.declared.record.Checkpoint.{Checkpoint}
use Rattle.wc_state.specs.declared.record.ProcessRecord.{ProcessRecord}
use Rattle.wc_world.specs.World.{World}
use Rattle.wc_world.specs.Records.{find_record, is_call_from}
use Rattle.wc_world.specs.Trees.{inputs_of}
use Rattle.wc_world.proofs.FoundRecords.{found_holds}
use Rattle.wc_machine.specs.Advances.{Advanced, submits, advance}
use Rattle.wc_machine.specs.Calls.{called_number}
use Rattle.wc_machine.specs.Laws.{HasPlaces}
use Rattle.wc_machine.specs.Paths.{call_links}
use Rattle.wc_machine.specs.Recorded.{recorded_inputs}
use Rattle.wc_machine.specs.Rest.{levels_of}
use Rattle.wc_machine.specs.Sound.{HoldsEnded, IsKnownNode, NamesKnown}
use Rattle.wc_machine.specs.Steps.{Call, values_in}
use Rattle.wc_turn_laws.specs.Instead.{MadeCalls}
use Rattle.wc_turn_laws.specs.OutlineLaws.{remains}
use Rattle.wc_turn_laws.specs.Nodes.{HoldsAfter, NodesAre}
use Rattle.wc_turn_laws.specs.View.{env_in}
use Rattle.wc_turn_laws.proofs.Exact.{advances_are_exact}
use Rattle.wc_turn_laws.proofs.Passed.{advance_holds}
use Rattle.wc_soundness.specs.TrackLaws.{IsAtTurn, IsSoundChain}
use Rattle.wc_soundness.proofs.ChainAdvances.{env_is}
use Rattle.wc_soundness.proofs.Names.{nodes_known}
use Rattle.wc_soundness.proofs.Rests.{finishes}
use Rattle.wc_soundness.proofs.SeenWorlds.{IsData, IsRead, nodes_read, read_is_data, seen_right, view_of}
use Rattle.wc_soundness.proofs.ChainStanding.{Standing, begins, runs, holds_found, outputs_data}
use Rattle.wc_soundness.specs.Submitted.{EachCall, calls_links, child_record, first_free, now_waits, submitted}
use Rattle.wc_soundness.proofs.Inputs.{called_inputs}
use Rattle.wc_soundness.proofs.Links.{calls_filtered}
use Rattle.wc_soundness.proofs.Records.{each_both, found_children, found_now}
use Rattle.wc_soundness.proofs.Touching.{calls_touch}
use Rattle.wc_soundness.proofs.ChainSubmissions.{calls_ascend, calls_read, counts, live, ordered, stands}
use Rattle.wc_soundness.proofs.SubmitTurns.{gives, keeps_sound}
use Rattle.wc_soundness.specs.CallingLaws.{CallingChainsStaySound, CallsOfChainsKeepSound}
use Rattle.wc_soundness.proofs.Calling.{HasSubmitted, IsCalling}
use Rattle.wc_soundness.proofs.CallingKept.{awaits_now, calls_now, fits_now, names_now, placed_now}
use Rattle.wc_soundness.proofs.CallingOnTrack.{waits_on_track}
use Rattle.wc_soundness.proofs.PlannedCalls.{IsMade, awaited_is}

module _ (w : World) (r : ProcessRecord) (k : Chain) (library : List Definition) (c : Checkpoint) (env : Env) (at : IsAtTurn w r k library c env) where
  step_is : (x : Advanced) → advance library k r.depth env c ≡ x → (earlier : MadeCalls) (table : Table) (cuts : Kills) (stop : Option ℕ) (n : ℕ)
      → finishes w r k library earlier table cuts stop c n
      ≡ ended stop r.definition k.head.outputs (remains k (view_of w) (inputs_of w r.node) earlier (within k.head.outputs stop (around (levels_of r) library table cuts)) c x n)
  step_is x e earlier table cuts stop n =
      let a : Around = within k.head.outputs stop (around (levels_of r) library table cuts) in
      advances_are_exact library k r.depth (view_of w) (inputs_of w r.node) c earlier table cuts stop r.definition n (seen_right w r.node) a refl
      ∙ ap (λ (y : Advanced). ended stop r.definition k.head.outputs (remains k (view_of w) (inputs_of w r.node) earlier a c y n))
      (ap (λ (z : Env). advance library k r.depth z c) (sym (env_is w r k library c env at)) ∙ e)

  outputs_known : (c' : Checkpoint) → Standing r c' → All (λ o. IsKnownNode w r o.1) c'.outputs
  outputs_known c' (begins a b) = All-nil (λ (o : Label × ℕ). IsKnownNode w r o.1)
  outputs_known c' (runs x a b) = (subst (NamesKnown w r) b (found_holds (λ q. NamesKnown w q q.part) r.node w.records r at.sound.names at.found)).1

  -- what its keys hold is what it called that has ended; its outputs are known nodes, and data
  keeps : (P : NodeValue → Type 0) (R : ℕ → Type 0) → ((n : NodeValue) → P n → R n.node) → NodesAre P (env_in (view_of w) (inputs_of w r.node) c.ctx) → All (λ o. R o.1) c.outputs
      → (x : Advanced) → advance library k r.depth env c ≡ x → HoldsAfter P (HoldsEnded w r) R x
  keeps P R named known set x e = subst (HoldsAfter P (HoldsEnded w r) R) e
      (advance_holds P (HoldsEnded w r) R (λ x. tt) named library k r.depth env c (subst (NodesAre P) (sym (env_is w r k library c env at)) known)
      (holds_found w at.sound r at.found c (stands w r k library c env at), set))

  knows : (x : Advanced) → advance library k r.depth env c ≡ x → HoldsAfter (λ n. IsKnownNode w r n.node) (HoldsEnded w r) (IsKnownNode w r) x
  knows = keeps (λ n. IsKnownNode w r n.node) (IsKnownNode w r) (λ n h. h) (nodes_known w r c c at.sound at.found (stands w r k library c env at) 0)
      (outputs_known c (stands w r k library c env at))

  reads : (x : Advanced) → advance library k r.depth env c ≡ x → HoldsAfter (IsRead w.nodes) (HoldsEnded w r) (IsData w w) x
  reads = keeps (IsRead w.nodes) (IsData w w) (read_is_data w) (nodes_read w r.node c.ctx) (outputs_data w at.sound r at.found c (stands w r k library c env at))

  module _ (d : Checkpoint) (calls : List Call) (e : advance library k r.depth env c ≡ submits d calls) where
    abbrev v : World
    v = submitted w r d calls

    -- the called processes are there, with the inputs that were planned
    pub made : EachCall w r (IsMade w r v) (first_free w r) calls
    made = each_both w r (λ n x. find_record (called_number w r n x) v.records ≡ Some (child_record w r n x)) (λ n x. recorded_inputs v (called_number w r n x) ≡ values_in x.args)
        (first_free w r) calls (found_children w r at.sound.consistent at.found d calls)
        (called_inputs w r at.sound.consistent d calls (calls_read w r k library c env at d calls e) (calls_ascend w r k library c env at d calls e))

    has_submitted : HasSubmitted w v r d calls
    has_submitted = record {
      touches = calls_touch w r at.sound at.found (live w r k library c env at) d calls;
      found = found_now w r at.sound.consistent at.found d calls;
      links =
          filter-append (is_call_from r.node) w.links (calls_links w r (first_free w r) calls)
          ∙ ap (λ (ls : List Link). call_links w r.node ++ ls) (calls_filtered w r (first_free w r) calls);
      planned = awaited_is w r v (first_free w r) calls made;
    }

    pub calling : IsCalling w v r k library c d calls
    calling = record {
      sound = at.sound;
      found = at.found;
      definition = at.definition;
      library_there = at.library_there;
      stands = stands w r k library c env at;
      counts = (counts w r k library c env at d calls e).0;
      numbered = (counts w r k library c env at d calls e).1;
      ascend = (ordered w r k library c env at d calls e).0;
      keys = (knows (submits d calls) e).0.0;
      values = (reads (submits d calls) e).0.1;
      names = (knows (submits d calls) e).0.1;
      exact = λ earlier table cuts stop n. step_is (submits d calls) e earlier table cuts stop n;
      submitted = has_submitted;
    }

    pub chain_is_sound : IsSoundChain v (now_waits w r d calls)
    chain_is_sound = record {
      fits = fits_now w v r k library c d calls calling;
      placed = placed_now w v r k library c d calls calling;
      calls = calls_now w v r k library c d calls calling;
      awaits = awaits_now w v r k library c d calls calling;
      names = names_now w v r k library c d calls calling;
      track = waits_on_track w v r k library c d calls calling;
    }

    record_is_sound : (s : ProcessRecord) → find_record r.node v.records ≡ Some s → IsSoundChain v s
    record_is_sound s there =
        let same : Some (now_waits w r d calls) ≡ Some s = sym has_submitted.found ∙ there in
        let now : now_waits w r d calls ≡ s = cc in
        subst (IsSoundChain v) now chain_is_sound

pub calling_chains_stay_sound : CallingChainsStaySound
calling_chains_stay_sound w r k library c d env calls at e =
    subst (λ (u : World). (s : ProcessRecord) → find_record r.node u.records ≡ Some s → IsSoundChain u s) (sym (gives w r k library c d env calls at e))
    (record_is_sound w r k library c env at d calls e)

pub calls_of_chains_keep_sound : CallsOfChainsKeepSound
calls_of_chains_keep_sound w r k library c d env calls at e places =
    keeps_sound w r k library c d env calls at e (subst (λ (u : World). HasPlaces w (length u.nodes)) (gives w r k library c d env calls at e) places)
    (chain_is_sound w r k library c env at d calls e)
