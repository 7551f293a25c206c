-- A consistent world accepts the turn of a work chain that submits calls.
use Rattle.std.proofs.Common.{◌≡◌, ℕ, suc, ◌+◌, ◌<◌, ◌≤◌, Bool, true, false, Option, Some, None, List, [], ◌∷◌, ◌++◌, get_or, length, refl, sym, ap, subst, ◌∙◌, arith}
use Rattle.std.specs.Prelude.{◌≢◌, ◌==◌, ◌&&◌, ◌||◌, not, All, if◌then◌else◌, is_some, option_and_then}
use Rattle.std.specs.List.{list_all}
use Rattle.std.proofs.lemmas.Bool.{and_from, and_parts, eq-eqb, leb-false}
use Rattle.std.proofs.lemmas.List.Elements.{All-append, All-cons, All-head, All-nil, All-tail}
use Rattle.wc_value.specs.Ascending.{Ascends}
use Rattle.wc_syntax.specs.Findings.{definition_named}
use Rattle.wc_syntax.specs.declared.definition.Chain.{Chain}
use Rattle.wc_syntax.specs.declared.definition.Definition.{Definition}
use Rattle.wc_graph.specs.Rules.{node_of}
use Rattle.wc_graph.specs.declared.link.Link.{Link}
use Rattle.wc_graph.specs.declared.node.NodeKind.{NodeKind}
use Rattle.wc_graph.specs.declared.node.NodeKind.TheVariants as made_of
use Rattle.wc_state.specs.declared.context.CtxRef.{CtxRef}
use Rattle.wc_state.specs.declared.context.CtxRef.TheVariants as held
use Rattle.wc_state.specs.declared.environment.Env.{Env}
use Rattle.wc_state.specs.declared.record.Checkpoint.{Checkpoint}
use Rattle.wc_state.specs.declared.record.Part.TheVariants as part
use Rattle.wc_state.specs.declared.record.ProcessKind.{ProcessKind}
use Rattle.wc_state.specs.declared.record.ProcessKind.TheVariants as kind
use Rattle.wc_state.specs.declared.record.ProcessRecord.{ProcessRecord}
use Rattle.wc_world.specs.declared.change.Change.{Change}
use Rattle.wc_world.specs.declared.change.Change.TheVariants as change
use Rattle.wc_world.specs.Accepted.{Apply, IsAccepted, Setting, setting}
use Rattle.wc_world.specs.Applied.{applied, begun, set}
use Rattle.wc_world.specs.Consistent.{IsConsistent}
use Rattle.wc_world.specs.Fits.{calls_from, checkpoint_fits, counted_calls, frame_fits, has_output, held_fits, is_data_node, is_nil, is_process, is_settled, outline_lengths, set_fits, unsettled, waits}
use Rattle.wc_world.specs.Records.{at_process, definition_in, find_record, has_called, has_ended, is_call_from, process_node}
use Rattle.wc_world.specs.World.{World}
use Rattle.wc_world.proofs.After.{same_number}
use Rattle.wc_world.proofs.ReachedGrown.{checkpoint_from}
use Rattle.wc_world.proofs.ReachedLists.{all_at_apart, all_found, find_grown, node_grown, unique}
use Rattle.wc_machine.specs.Advances.{advance, submits}
use Rattle.wc_machine.specs.Calls.{advanced, awaits, called_number, calls_changes, kind_of_callee}
use Rattle.wc_machine.specs.Laws.{HasPlaces}
use Rattle.wc_machine.specs.Steps.{Call}
use Rattle.wc_machine.specs.Submissions.{input_link}
use Rattle.wc_machine.proofs.AcceptedEnds.{live_without_output, process_is_node, settled_all}
use Rattle.wc_machine.proofs.Frames.{calls_before, no_call_from, output_before, settled_stays}
use Rattle.wc_machine.proofs.SubmittedAccepted.{apply_append}
use Rattle.wc_turn_laws.specs.Nodes.{HoldsAfter, InCall}
use Rattle.wc_soundness.proofs.Held.{from_all}
use Rattle.wc_soundness.specs.Standing.{AreLowIn}
use Rattle.wc_soundness.specs.Submitted.{EachCall, call_links, calls_links, calls_nodes, calls_records, child_record, first_free, input_links, its_call_link, submitted, waiting_at, waits_at}
use Rattle.wc_soundness.proofs.ChainChildren.{any_behind, children_called, gives_nothing, new_calls, old_calls}
use Rattle.wc_soundness.proofs.Links.{inputs_call_nothing, its_link_calls, no_calls_of, no_outputs}
use Rattle.wc_soundness.proofs.Records.{children_all, each_beyond, each_by, none_beyond, within}
use Rattle.wc_soundness.proofs.SeenWorlds.{IsRead}
use Rattle.wc_soundness.proofs.SubmitAccepted.{IsReady, MayCall, calls_apply, ready_first}
use Rattle.wc_soundness.proofs.Worlds.{calls_added, submits_gives, with_calls}
use Rattle.wc_soundness.proofs.Chains.{FitsLow, IsTurn, both_pass, counted, holds, inside, is_chain, its_stand, live, lows, numbered, ordered, stands, taken}
use Rattle.wc_soundness.proofs.AcceptedTaken.{HasCallee}

-- ---- what grows

process_more : (pid : ℕ) (rs more : List ProcessRecord) → is_process rs pid ≡ true → is_process (rs ++ more) pid ≡ true
process_more pid [] more h = absurd (cc)
process_more pid (x ∷ xs) more h = by (x.node == pid) h (process_more pid xs more)
  where
    by : (b : Bool) → is_some (if b then Some x else find_record pid xs) ≡ true → (is_process xs pid ≡ true → is_process (xs ++ more) pid ≡ true)
        → is_some (if b then Some x else find_record pid (xs ++ more)) ≡ true
    by true e rest = refl
    by false e rest = rest e

processes_more : (pids : List ℕ) (rs more : List ProcessRecord) → list_all (is_process rs) pids ≡ true → list_all (is_process (rs ++ more)) pids ≡ true
processes_more [] rs more h = refl
processes_more (pid ∷ pids) rs more h =
    let b = and_parts (is_process rs pid) (list_all (is_process rs) pids) h in
    and_from (is_process (rs ++ more) pid) (list_all (is_process (rs ++ more)) pids) (process_more pid rs more b.0) (processes_more pids rs more b.1)

held_more : (rs more : List ProcessRecord) (h : CtxRef) → held_fits rs h ≡ true → held_fits (rs ++ more) h ≡ true
held_more rs more (held.Plain v) e = e
held_more rs more (held.One pid) e = process_more pid rs more e
held_more rs more (held.Many pids) e = processes_more pids rs more e

data_more : (nodes more : List NodeKind) (id : ℕ) → is_data_node (node_of nodes id) ≡ true → is_data_node (node_of (nodes ++ more) id) ≡ true
data_more nodes more id h = by (node_of nodes id) refl h
  where
    by : (o : Option NodeKind) → node_of nodes id ≡ o → is_data_node o ≡ true → is_data_node (node_of (nodes ++ more) id) ≡ true
    by None e p = absurd (cc)
    by (Some k) e p = ap is_data_node (node_grown nodes more id k e) ∙ p

-- ---- how many calls

calls_split : (pid : ℕ) (xs ys : List Link) → calls_from pid (xs ++ ys) ≡ calls_from pid xs + calls_from pid ys
calls_split pid [] ys = omega arith
calls_split pid (x ∷ xs) ys = by (is_call_from pid x) (calls_split pid xs ys)
  where
    by : (b : Bool) → calls_from pid (xs ++ ys) ≡ calls_from pid xs + calls_from pid ys
        → (if b then suc (calls_from pid (xs ++ ys)) else calls_from pid (xs ++ ys)) ≡ (if b then suc (calls_from pid xs) else calls_from pid xs) + calls_from pid ys
    by true e = omega (arith, e)
    by false e = e

module _ (w : World) (r : ProcessRecord) where
  one_call : (n : ℕ) (c : Call) → calls_from r.node (call_links w r n c) ≡ 1
  one_call n c =
      let k : ProcessKind = kind_of_callee w r c in
      let inputs : List Link = input_links (input_link k) n (called_number w r n c) c.args in
      let l : Link = its_call_link w r n c in
      calls_split r.node inputs (l ∷ [])
      ∙ (λ i. calls_before r.node [] inputs (no_call_from r.node inputs (inputs_call_nothing k n (called_number w r n c) c.args)) i
      + (if its_link_calls w r n c i then 1 else 0))

  many_calls : (next : ℕ) (cs : List Call) → calls_from r.node (calls_links w r next cs) ≡ length cs
  many_calls next [] = refl
  many_calls next (c ∷ cs) =
      let further : ℕ = suc (called_number w r next c) in
      let split : calls_from r.node (call_links w r next c ++ calls_links w r further cs) ≡ calls_from r.node (call_links w r next c) + calls_from r.node (calls_links w r further cs)
      = calls_split r.node (call_links w r next c) (calls_links w r further cs) in
      omega (arith, split, one_call next c, many_calls further cs)

  -- each awaited process was called
  awaits_called : (ls : List Link) (next : ℕ) (cs : List Call) → EachCall w r (λ n c. has_called ls r.node (called_number w r n c) ≡ true) next cs
      → list_all (λ a. has_called ls r.node a.pid) (awaits w r next cs) ≡ true
  awaits_called ls next [] h = refl
  awaits_called ls next (c ∷ cs) h =
      let further : ℕ = suc (called_number w r next c) in
      and_from (has_called ls r.node (called_number w r next c)) (list_all (λ a. has_called ls r.node a.pid) (awaits w r further cs)) h.0 (awaits_called ls further cs h.1)

  some_awaits : (next : ℕ) (cs : List Call) → length cs ≢ 0 → not (is_nil (awaits w r next cs)) ≡ true
  some_awaits next [] h = absurd (h refl)
  some_awaits next (c ∷ cs) h = refl

waits_by : (k : ProcessKind) (d : Checkpoint) → k ≡ kind.Chain → not (is_nil d.awaiting) ≡ true → waits k (part.Chain d) ≡ true
waits_by k d e some = ap (λ (x : ProcessKind). waits x (part.Chain d)) e ∙ some

module _ (w : World) (r : ProcessRecord) (k : Chain) (library : List Definition) (c : Checkpoint) (env : Env) (at : IsTurn w r k library c env)
    (d : Checkpoint) (calls : List Call) (e : advance library k r.depth env c ≡ submits d calls) where
  abbrev v : World
  v = submitted w r d calls

  abbrev next : ℕ
  next = first_free w r

  abbrev new : List Link
  new = calls_links w r next calls

  abbrev then_at : Checkpoint
  then_at = waiting_at w r d calls

  -- the world with the calls, before the chain is set
  abbrev u : World
  u = with_calls w r (begun w) next calls

  consistent : IsConsistent w
  consistent = at.consistent

  lives : has_ended r.state ≡ false
  lives = live w r k library c env at

  chains : r.kind ≡ kind.Chain
  chains = is_chain w r k library c env at

  -- ---- what it holds, and its calls

  held_then : (rs : List ProcessRecord) (ns : List NodeKind)
      → HoldsAfter (IsRead w.nodes) (FitsLow (w.records ++ rs)) (λ id. is_data_node (node_of (w.nodes ++ ns) id) ≡ true) (submits d calls)
  held_then rs ns = holds w r k library c env at (submits d calls) e (w.records ++ rs) (w.nodes ++ ns) (held_more w.records rs) (data_more w.nodes ns)

  read : All (InCall (IsRead w.nodes)) calls
  read = (held_then [] []).1

  there : (name : List ℕ) → definition_in w.libraries r.library name ≡ definition_named name library
  there name = ap (option_and_then (definition_named name)) at.library_there

  may_each : (cs : List Call) → All (HasCallee library r.depth) cs → All (λ x. Ascends x.args) cs → All AreLowIn cs → All (MayCall w r) cs
  may_each [] t a l = All-nil (MayCall w r)
  may_each (x ∷ xs) t a l =
      let one : HasCallee library r.depth x = All-head (HasCallee library r.depth) x xs t in
      All-cons (MayCall w r) x xs (record {
        level = leb-false 16 r.depth one.level;
        definition = one.definition;
        is_there = there x.definition ∙ one.is_there;
        ascend = All-head (λ y. Ascends y.args) x xs a;
        low = All-head AreLowIn x xs l;
      }) (may_each xs (All-tail (HasCallee library r.depth) x xs t) (All-tail (λ y. Ascends y.args) x xs a) (All-tail AreLowIn x xs l))

  may : All (MayCall w r) calls
  may = may_each calls (taken w r k library c env at (submits d calls) e).1 (ordered w r k library c env at (submits d calls) e).1 (lows w r k library c env at (submits d calls) e).1

  -- ---- the chain waits

  called : EachCall w r (λ n x. has_called u.links r.node (called_number w r n x) ≡ true) next calls
  called =
      each_by w r (λ n x. has_called new r.node (called_number w r n x) ≡ true) (λ n x. has_called u.links r.node (called_number w r n x) ≡ true)
      (λ n x h. any_behind (λ l. is_call_from r.node l && (l.target == called_number w r n x)) w.links new h) next calls (children_called w r next calls)

  checkpoint : checkpoint_fits u r then_at ≡ true
  checkpoint = checkpoint_from u r then_at (record {
    some = (inside w r k library c env at (submits d calls) e).0;
    frames = ap (λ (o : Option Definition). list_all (frame_fits (outline_lengths o)) d.frames) at.definition ∙ (inside w r k library c env at (submits d calls) e).1;
    awaiting = awaits_called w r u.links next calls called;
    ctx = both_pass (w.records ++ calls_records w r next calls) d.ctx (held_then (calls_records w r next calls) []).0.0 (lows w r k library c env at (submits d calls) e).0;
    outputs = from_all (λ o. is_data_node (node_of (w.nodes ++ calls_nodes w r calls) o.1)) d.outputs (held_then [] (calls_nodes w r calls)).0.1;
  })

  set_fit : set_fits u (waits_at w r d calls) r ≡ true
  set_fit =
      and_from (not (has_ended r.state)) _ (ap not lives)
      (and_from (waits r.kind (part.Chain then_at)) _
      (waits_by r.kind then_at chains (some_awaits w r next calls (taken w r k library c env at (submits d calls) e).0)) checkpoint)

  -- ---- each change

  workflow : node_of w.nodes r.node ≡ Some made_of.Workflow
  workflow = process_is_node w consistent r at.found ∙ ap (λ (x : ProcessKind). Some (process_node x)) chains

  ready : IsReady w r (begun w) next
  ready = ready_first w r consistent at.found workflow (λ q le. none_beyond w r consistent at.found d calls q (omega arith))

  each : (s : Setting) → s.batch ≡ w.batches + 1 → length v.nodes ≤ 8000000
      → Apply s (begun w) (calls_changes w r next calls ++ change.Set (waits_at w r d calls) ∷ [])
  each s b room =
      apply_append s (begun w) (calls_changes w r next calls) (change.Set (waits_at w r d calls) ∷ [])
      (calls_apply w r s (begun w) next calls ready may read room)
      (subst (λ (x : World). Apply s x (change.Set (waits_at w r d calls) ∷ [])) (sym (calls_added w r s.batch (begun w) next calls refl))
      ((r, find_grown r.node w.records (calls_records w r next calls) r at.found, set_fit, refl), tt))

  -- ---- all are settled

  abbrev f : ProcessRecord → ProcessRecord
  f = set (w.batches + 1) (waits_at w r d calls)

  bare : has_output r.node w.links ≡ false
  bare = live_without_output w r (its_stand w r k library c env at) lives

  before : calls_from r.node w.links ≡ counted_calls r.part
  before =
      let either : not (has_output r.node w.links) && (calls_from r.node w.links == counted_calls r.part) ≡ true
      = subst (λ (b : Bool). b || (not (has_output r.node w.links) && (calls_from r.node w.links == counted_calls r.part)) ≡ true) lives (its_stand w r k library c env at).settled in
      same_number (calls_from r.node w.links) (counted_calls r.part)
      (and_parts (not (has_output r.node w.links)) (calls_from r.node w.links == counted_calls r.part) either).1

  all_counted : calls_from r.node v.links ≡ d.calls + length calls
  all_counted =
      calls_split r.node w.links new
      ∙ (λ i. (before ∙ sym (counted w r k library c env at c (stands w r k library c env at)) ∙ sym (numbered w r k library c env at (submits d calls) e).0.0) i + many_calls w r next calls i)

  chain_settles : is_settled v.links (f r) ≡ true
  chain_settles =
      and_from (not (has_output r.node v.links)) (calls_from r.node v.links == (d.calls + length calls))
      (ap not (output_before r.node w.links new (no_outputs w r r.node next calls) ∙ bare))
      (eq-eqb (calls_from r.node v.links) (d.calls + length calls) all_counted)

  child_settles : (n : ℕ) (x : Call) → length w.nodes < n → is_settled v.links (child_record w r n x) ≡ true
  child_settles n x beyond =
      let q : ℕ = called_number w r n x in
      let lt : length w.nodes < called_number w r n x = omega arith in
      and_from (not (has_output q v.links)) (calls_from q v.links == 0) (ap not (gives_nothing w r consistent at.found d calls q lt))
      (eq-eqb (calls_from q v.links) 0 (calls_before q w.links new (new_calls w r consistent at.found d calls q lt)
      ∙ calls_before q [] w.links (old_calls w r consistent at.found d calls q lt)))

  settled : unsettled v.links v.records ≡ None
  settled =
      settled_all v.links v.records
      (All-append (λ x. is_settled v.links x ≡ true) (at_process r.node f w.records) (calls_records w r next calls)
      (all_at_apart (λ x. is_settled v.links x ≡ true) r.node f w.records
      (λ i b lt ne.
      let q : ProcessRecord = get_or w.records i b in
      settled_stays w.links new q (no_outputs w r q.node next calls) (no_calls_of w r q.node next calls (λ same. ne (sym same))) ∙ (consistent.records i b lt).settled)
      (all_found (λ x. is_settled v.links (f x) ≡ true) r.node w.records r (unique 1 w.nodes w.records consistent.numbered) at.found chain_settles))
      (children_all w r (λ x. is_settled v.links x ≡ true) next calls
      (each_by w r (λ n x. length w.nodes + 1 ≤ n) (λ n x. is_settled v.links (child_record w r n x) ≡ true) (λ n x le. child_settles n x (omega (arith, le))) next calls
      (each_beyond w r next next calls (omega arith)))))

  -- Where there is room for the new nodes, the changes are accepted.
  pub calls_accepted : HasPlaces w (length (applied w (advanced w r k.head.outputs (submits d calls))).nodes) → IsAccepted w (advanced w r k.head.outputs (submits d calls))
  calls_accepted places =
      let cs : List Change = advanced w r k.head.outputs (submits d calls) in
      let same : applied w cs ≡ v = submits_gives w r k.head.outputs d calls (within w r consistent at.found d calls r.node r at.found) in
      record {
        batch = places.batches;
        each = each (setting w cs) refl (subst (λ (x : World). length x.nodes ≤ 8000000) same places.nodes);
        settled = subst (λ (x : World). unsettled x.links x.records ≡ None) (sym same) settled;
      }
