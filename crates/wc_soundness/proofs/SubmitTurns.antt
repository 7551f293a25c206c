-- A chain that submits calls keeps a sound world sound, where its own record is as a sound world asks.
use Rattle.std.proofs.Common.{inl, inr, ◌≡◌, ◌⊎◌, ℕ, suc, ◌+◌, ◌<◌, ◌≤◌, false, List, [], ◌∷◌, Option, Some, None, length, refl, sym, ap, subst, ◌∙◌, arith}
use Rattle.std.specs.Prelude.{All, option_and_then}
use Rattle.std.proofs.lemmas.Bool.{cases_eq}
use Rattle.std.proofs.lemmas.List.Elements.{All-append, All-cons, All-head, All-nil, All-tail, All-weaker}
use Rattle.wc_value.specs.declared.value.Value.{Value}
use Rattle.wc_syntax.specs.declared.definition.Chain.{Chain}
use Rattle.wc_syntax.specs.declared.definition.Definition.{Definition}
use Rattle.wc_graph.specs.Rules.{node_of}
use Rattle.wc_graph.specs.declared.link.LinkType.{LinkType}
use Rattle.wc_graph.specs.declared.node.NodeKind.{NodeKind}
use Rattle.wc_state.specs.declared.environment.Env.{Env}
use Rattle.wc_state.specs.declared.record.Checkpoint.{Checkpoint}
use Rattle.wc_state.specs.declared.record.ProcessKind.{ProcessKind}
use Rattle.wc_state.specs.declared.record.ProcessKind.TheVariants as kind
use Rattle.wc_state.specs.declared.record.ProcessRecord.{ProcessRecord}
use Rattle.wc_world.specs.Accepted.{IsAccepted}
use Rattle.wc_world.specs.Consistent.{IsConsistent}
use Rattle.wc_world.specs.Records.{find_record, is_calculation}
use Rattle.wc_world.specs.Trees.{data_of, value_of}
use Rattle.wc_world.specs.World.{World}
use Rattle.wc_world.proofs.ReachedWorlds.{accepted_is_consistent}
use Rattle.wc_machine.specs.Advances.{advance, submits}
use Rattle.wc_machine.specs.Calls.{Arguments, advanced, call_link, called_number, kind_of_callee, plain_data}
use Rattle.wc_machine.specs.Continues.{Continues}
use Rattle.wc_machine.specs.Laws.{HasPlaces}
use Rattle.wc_machine.specs.Sound.{GoesUp, IsSound, is_provenance}
use Rattle.wc_machine.specs.Sources.{KeepsRule}
use Rattle.wc_machine.specs.Steps.{Argument, node, plain, Call}
use Rattle.wc_machine.specs.Submissions.{input_link}
use Rattle.wc_machine.proofs.Frames.{IsNode, node_number}
use Rattle.wc_soundness.specs.Touches.{HasSoundLists, IsSoundRecord, Touches}
use Rattle.wc_soundness.proofs.Others.{touched_worlds_are_sound}
use Rattle.wc_soundness.proofs.Touched.{touching_continues}
use Rattle.wc_turn_laws.specs.Nodes.{InArgument, InCall}
use Rattle.wc_soundness.specs.BindingLaws.{KeepsSound}
use Rattle.wc_soundness.specs.TrackLaws.{IsAtTurn, IsSoundChain, after_turn}
use Rattle.wc_soundness.proofs.SeenWorlds.{IsRead}
use Rattle.wc_soundness.proofs.ChainStanding.{none_awaited}
use Rattle.wc_soundness.specs.SubmitLaws.{CalledAreSound, ChainCallsAreAccepted, ChainCallsTouch, SubmittingChainsKeepSound}
use Rattle.wc_soundness.specs.Submitted.{EachCall, call_links, calls_links, child_record, first_free, input_links, now_waits, submitted}
use Rattle.wc_soundness.proofs.ChainChildren.{IsCallable, children_sound}
use Rattle.wc_soundness.proofs.SubmitFuel.{fuel_within}
use Rattle.wc_soundness.proofs.Inputs.{called_inputs}
use Rattle.wc_soundness.proofs.Links.{call_all}
use Rattle.wc_soundness.proofs.Records.{each_of, found_new, found_now, within}
use Rattle.wc_soundness.proofs.Touching.{calls_end_late, calls_touch, may_call}
use Rattle.wc_soundness.proofs.ChainSubmissions.{calls_ascend, calls_callable, calls_read, is_chain, live, stands}
use Rattle.wc_soundness.proofs.Acceptance.{calls_accepted}
use Rattle.wc_soundness.proofs.Worlds.{submits_gives}

-- ---- links go up

no_provenance : (k : ProcessKind) → is_provenance (call_link k) ≡ false
no_provenance kind.Function = refl
no_provenance kind.Job = refl
no_provenance kind.Chain = refl

inputs_up : (type : LinkType) (next pid : ℕ) (args : Arguments) → next + length (plain_data args) ≤ pid → All (λ a. InArgument (λ n. n.node < pid) a.1) args
    → All GoesUp (input_links type next pid args)
inputs_up type next pid [] le h = All-nil GoesUp
inputs_up type next pid ((port, node n) ∷ rest) le h =
    All-cons GoesUp (record { source = n.node; target = pid; link = type; label = port }) (input_links type next pid rest)
    (λ e. All-head (λ a. InArgument (λ n. n.node < pid) a.1) (port, node n) rest h)
    (inputs_up type next pid rest le (All-tail (λ a. InArgument (λ n. n.node < pid) a.1) (port, node n) rest h))
inputs_up type next pid ((port, plain v) ∷ rest) le h =
    All-cons GoesUp (record { source = next; target = pid; link = type; label = port }) (input_links type (suc next) pid rest)
    (λ e. omega (arith, le))
    (inputs_up type (suc next) pid rest (omega (arith, le)) (All-tail (λ a. InArgument (λ n. n.node < pid) a.1) (port, plain v) rest h))

has_node : (nodes : List NodeKind) (id : ℕ) (v : Value) → value_of nodes id ≡ Some v → IsNode nodes id
has_node nodes id v h = by (node_of nodes id) refl h
  where
    by : (o : Option NodeKind) → node_of nodes id ≡ o → option_and_then data_of o ≡ Some v → IsNode nodes id
    by None e p = absurd (cc)
    by (Some k) e p = (k, e)

-- the nodes that a call is given have numbers below those that are new
below : (nodes : List NodeKind) (pid : ℕ) → length nodes < pid → (x : Argument) → InArgument (IsRead nodes) x → InArgument (λ n. n.node < pid) x
below nodes pid lt (node n) h = let le : n.node ≤ length nodes = node_number nodes n.node (has_node nodes n.node n.value h) in omega (arith, le, lt)
below nodes pid lt (plain v) h = tt

links_up : (w : World) (r : ProcessRecord) (next : ℕ) (cs : List Call) → length w.nodes < next → All (InCall (IsRead w.nodes)) cs → All GoesUp (calls_links w r next cs)
links_up w r next [] lt h = All-nil GoesUp
links_up w r next (c ∷ cs) lt h =
    let number : ℕ = called_number w r next c in
    let low : All (λ a. InArgument (λ n. n.node < number) a.1) c.args
    = All-weaker (λ a. InArgument (IsRead w.nodes) a.1) (λ a. InArgument (λ n. n.node < number) a.1) (λ a. below w.nodes number (omega (arith, lt)) a.1) c.args
    (All-head (InCall (IsRead w.nodes)) c cs h) in
    All-append GoesUp (call_links w r next c) (calls_links w r (suc number) cs)
    (call_all w r GoesUp next c (inputs_up (input_link (kind_of_callee w r c)) next number c.args (omega arith) low)
    (λ e. absurd (let none : is_provenance (call_link (kind_of_callee w r c)) ≡ false = no_provenance (kind_of_callee w r c) in cc (e, none))))
    (links_up w r (suc number) cs (omega (arith, lt)) (All-tail (InCall (IsRead w.nodes)) c cs h))

-- ---- the turn

module _ (w : World) (r : ProcessRecord) (k : Chain) (library : List Definition) (c d : Checkpoint) (env : Env) (calls : List Call) (at : IsAtTurn w r k library c env)
    (e : advance library k r.depth env c ≡ submits d calls) where
  abbrev v : World
  v = submitted w r d calls

  pub gives : after_turn w r k (submits d calls) ≡ v
  gives = submits_gives w r k.head.outputs d calls (within w r at.sound.consistent at.found d calls r.node r at.found)

  touches : Touches w v r.node
  touches = calls_touch w r at.sound at.found (live w r k library c env at) d calls

  pub children_are : EachCall w r (λ n x. IsSoundRecord v (child_record w r n x)) (first_free w r) calls
  children_are =
      children_sound w r at.sound.consistent at.found d calls (each_of w r (IsCallable w r) (first_free w r) calls (calls_callable w r k library c env at d calls e))
      (called_inputs w r at.sound.consistent d calls (calls_read w r k library c env at d calls e) (calls_ascend w r k library c env at d calls e))

  pub new_is_sound : (s : ProcessRecord) → find_record s.node v.records ≡ Some s → length w.nodes < s.node → IsSoundRecord v s
  new_is_sound s there beyond = found_new w r at.sound.consistent at.found d calls (IsSoundRecord v) children_are s there beyond

  no_calculation : is_calculation r.kind ≡ false
  no_calculation = ap is_calculation (is_chain w r k library c env at)

  rule : KeepsRule v (now_waits w r d calls)
  rule = (λ calculates on ne. absurd (cc (calculates, no_calculation)), λ off. refl, λ never. refl, λ other. refl)

  chain_record : IsSoundChain v (now_waits w r d calls) → IsSoundRecord v (now_waits w r d calls)
  chain_record h = record {
    fits = h.fits;
    placed = h.placed;
    calls = h.calls;
    awaits = h.awaits;
    names = h.names;
    rule = rule;
    bare = λ calculates alive. absurd (cc (calculates, no_calculation));
    given = λ calculates over. absurd (cc (calculates, no_calculation));
    live = λ alive. h.track;
    ended = λ over. absurd (cc over);
    few = λ over. absurd (cc over);
  }

  lists : IsConsistent v → HasSoundLists v
  lists consistent = record {
    consistent = consistent;
    libraries = at.sound.libraries;
    upward = All-append GoesUp w.links (calls_links w r (first_free w r) calls) at.sound.upward
        (links_up w r (first_free w r) calls (omega arith) (calls_read w r k library c env at d calls e));
    one_creator = λ i j l m a b is_l is_m same.
        elim (cases_eq i j) [ inl x ↦ x | inr ne ↦ absurd ((consistent.links.apart i j l m ne a b).creators (is_l, is_m, same)) ];
    fuel = fuel_within w r at.sound at.found (live w r k library c env at) (none_awaited w at.sound r at.found c (stands w r k library c env at)) d calls;
  }

  pub keeps_sound : HasPlaces w (length v.nodes) → IsSoundChain v (now_waits w r d calls) → KeepsSound w (advanced w r k.head.outputs (submits d calls))
  keeps_sound places chain =
      let accepted : IsAccepted w (advanced w r k.head.outputs (submits d calls)) = calls_accepted w r k library c env at d calls e places in
      let consistent : IsConsistent v = subst IsConsistent gives (accepted_is_consistent w (advanced w r k.head.outputs (submits d calls)) at.sound.consistent accepted) in
      let may = may_call w r at.sound at.found (live w r k library c env at) d calls in
      let now : find_record r.node v.records ≡ Some (now_waits w r d calls) = found_now w r at.sound.consistent at.found d calls in
      let one : (q : ProcessRecord) → find_record q.node v.records ≡ Some q → (r.node ≡ q.node) ⊎ (length w.nodes < q.node) → IsSoundRecord v q = λ q is which.
      elim which [
        | inl same ↦
            let found : Some (now_waits w r d calls) ≡ Some q = sym now ∙ ap (λ (n : ℕ). find_record n v.records) same ∙ is in
            let it : now_waits w r d calls ≡ q = cc in
            subst (IsSoundRecord v) it (chain_record chain)
        | inr beyond ↦ new_is_sound q is beyond
      ] in
      record {
        accepted = accepted;
        continues = subst (λ (x : World). Continues w x) (sym gives) (touching_continues w v r.node at.sound touches may);
        sound = subst IsSound (sym gives)
            (touched_worlds_are_sound w v r.node at.sound touches may (calls_end_late w r at.sound at.found (live w r k library c env at) d calls) (lists consistent) one);
      }

-- ---- laws

pub chain_calls_are_accepted : ChainCallsAreAccepted
chain_calls_are_accepted w r k library c d env calls at e places =
    calls_accepted w r k library c env at d calls e (subst (λ (x : World). HasPlaces w (length x.nodes)) (gives w r k library c d env calls at e) places)

pub chain_calls_touch : ChainCallsTouch
chain_calls_touch w r k library c d env calls at e =
    subst (λ (x : World). Touches w x r.node) (sym (gives w r k library c d env calls at e)) (touches w r k library c d env calls at e)

pub called_are_sound : CalledAreSound
called_are_sound w r k library c d env calls at e =
    subst (λ (x : World). (s : ProcessRecord) → find_record s.node x.records ≡ Some s → length w.nodes < s.node → IsSoundRecord x s)
    (sym (gives w r k library c d env calls at e)) (new_is_sound w r k library c d env calls at e)

pub submitting_chains_keep_sound : SubmittingChainsKeepSound
submitting_chains_keep_sound w r k library c d env calls at e places chain =
    let same = gives w r k library c d env calls at e in
    keeps_sound w r k library c d env calls at e (subst (λ (x : World). HasPlaces w (length x.nodes)) same places) (subst (λ (x : World). IsSoundChain x (now_waits w r d calls)) same chain)
