-- The changes of a chain that submits calls are accepted.
use Rattle.std.proofs.Common.{◌≡◌, ◌≢◌, ℕ, suc, ◌+◌, ◌<◌, ◌≤◌, Bool, true, false, Option, Some, None, List, [], ◌∷◌, ◌++◌, get_or, length, refl, sym, ap, subst, ◌∙◌, arith}
use Rattle.std.specs.Prelude.{◌==◌, ◌&&◌, ◌||◌, not, if◌then◌else◌}
use Rattle.std.specs.List.{list_all}
use Rattle.std.proofs.lemmas.Bool.{and_from, and_parts, eq-eqb}
use Rattle.std.proofs.lemmas.List.Elements.{All-append}
use Rattle.wc_syntax.specs.declared.definition.Chain.{Chain}
use Rattle.wc_syntax.specs.declared.definition.Definition.{Definition}
use Rattle.wc_graph.specs.Rules.{node_of}
use Rattle.wc_graph.specs.declared.link.Link.{Link}
use Rattle.wc_graph.specs.declared.node.NodeKind.TheVariants as made_of
use Rattle.wc_state.specs.declared.environment.Env.{Env}
use Rattle.wc_state.specs.declared.record.Checkpoint.{Checkpoint}
use Rattle.wc_state.specs.declared.record.Part.TheVariants as part
use Rattle.wc_state.specs.declared.record.ProcessKind.{ProcessKind}
use Rattle.wc_state.specs.declared.record.ProcessKind.TheVariants as kind
use Rattle.wc_state.specs.declared.record.ProcessRecord.{ProcessRecord}
use Rattle.wc_world.specs.declared.change.Change.{Change}
use Rattle.wc_world.specs.declared.change.Change.TheVariants as change
use Rattle.wc_world.specs.Accepted.{Apply, IsAccepted, Setting, setting}
use Rattle.wc_world.specs.Applied.{begun, set}
use Rattle.wc_world.specs.Consistent.{IsConsistent}
use Rattle.wc_world.specs.Fits.{calls_from, checkpoint_fits, counted_calls, frame_fits, has_output, is_nil, is_settled, outline_lengths, set_fits, unsettled, waits}
use Rattle.wc_world.specs.Records.{at_process, has_called, has_ended, is_call_from, process_node}
use Rattle.wc_world.specs.World.{World}
use Rattle.wc_world.proofs.After.{same_number}
use Rattle.wc_world.proofs.ReachedGrown.{checkpoint_from}
use Rattle.wc_world.proofs.ReachedLists.{all_at_apart, all_found, find_grown, unique}
use Rattle.wc_machine.specs.Advances.{advance, submits}
use Rattle.wc_machine.specs.Calls.{advanced, awaits, called_number, calls_changes, kind_of_callee}
use Rattle.wc_machine.specs.Laws.{HasPlaces}
use Rattle.wc_machine.specs.Steps.{Call}
use Rattle.wc_machine.specs.Submissions.{input_link}
use Rattle.wc_machine.proofs.AcceptedEnds.{live_without_output, process_is_node, settled_all}
use Rattle.wc_machine.proofs.Frames.{calls_before, no_call_from, output_before, settled_stays}
use Rattle.wc_machine.proofs.SubmittedAccepted.{apply_append}
use Rattle.wc_soundness.specs.TrackLaws.{IsAtTurn}
use Rattle.wc_soundness.proofs.ChainStanding.{Standing, begins, runs, its_stand}
use Rattle.wc_soundness.specs.Submitted.{EachCall, call_links, calls_links, calls_nodes, calls_records, child_record, first_free, input_links, its_call_link, submitted, waiting_at, waits_at}
use Rattle.wc_soundness.proofs.SubmitAccepted.{IsReady, calls_apply, ready_first}
use Rattle.wc_soundness.proofs.ChainChildren.{any_behind, children_called, gives_nothing, new_calls, old_calls}
use Rattle.wc_soundness.proofs.Links.{inputs_call_nothing, its_link_calls, no_calls_of, no_outputs}
use Rattle.wc_soundness.proofs.Records.{children_all, each_beyond, each_by, none_beyond, within}
use Rattle.wc_soundness.proofs.ChainSubmissions.{calls_may, calls_read, counts, inside, is_chain, keys_fit, live, outputs_fit, some_calls, stands}
use Rattle.wc_soundness.proofs.Worlds.{calls_added, submits_gives, with_calls}

-- ---- how many calls

calls_split : (pid : ℕ) (xs ys : List Link) → calls_from pid (xs ++ ys) ≡ calls_from pid xs + calls_from pid ys
calls_split pid [] ys = omega arith
calls_split pid (x ∷ xs) ys = by (is_call_from pid x) (calls_split pid xs ys)
  where
    by : (b : Bool) → calls_from pid (xs ++ ys) ≡ calls_from pid xs + calls_from pid ys
        → (if b then suc (calls_from pid (xs ++ ys)) else calls_from pid (xs ++ ys)) ≡ (if b then suc (calls_from pid xs) else calls_from pid xs) + calls_from pid ys
    by true e = omega (arith, e)
    by false e = e

module _ (w : World) (r : ProcessRecord) where
  one_call : (n : ℕ) (c : Call) → calls_from r.node (call_links w r n c) ≡ 1
  one_call n c =
      let k : ProcessKind = kind_of_callee w r c in
      let inputs : List Link = input_links (input_link k) n (called_number w r n c) c.args in
      let l : Link = its_call_link w r n c in
      calls_split r.node inputs (l ∷ [])
      ∙ (λ i. calls_before r.node [] inputs (no_call_from r.node inputs (inputs_call_nothing k n (called_number w r n c) c.args)) i
      + (if its_link_calls w r n c i then 1 else 0))

  many_calls : (next : ℕ) (cs : List Call) → calls_from r.node (calls_links w r next cs) ≡ length cs
  many_calls next [] = refl
  many_calls next (c ∷ cs) =
      let further : ℕ = suc (called_number w r next c) in
      let split : calls_from r.node (call_links w r next c ++ calls_links w r further cs) ≡ calls_from r.node (call_links w r next c) + calls_from r.node (calls_links w r further cs)
      = calls_split r.node (call_links w r next c) (calls_links w r further cs) in
      omega (arith, split, one_call next c, many_calls further cs)

  -- each awaited process was called
  awaits_called : (ls : List Link) (next : ℕ) (cs : List Call) → EachCall w r (λ n c. has_called ls r.node (called_number w r n c) ≡ true) next cs
      → list_all (λ a. has_called ls r.node a.pid) (awaits w r next cs) ≡ true
  awaits_called ls next [] h = refl
  awaits_called ls next (c ∷ cs) h =
      let further : ℕ = suc (called_number w r next c) in
      and_from (has_called ls r.node (called_number w r next c)) (list_all (λ a. has_called ls r.node a.pid) (awaits w r further cs)) h.0 (awaits_called ls further cs h.1)

  some_awaits : (next : ℕ) (cs : List Call) → length cs ≢ 0 → not (is_nil (awaits w r next cs)) ≡ true
  some_awaits next [] h = absurd (h refl)
  some_awaits next (c ∷ cs) h = refl

waits_by : (k : ProcessKind) (d : Checkpoint) → k ≡ kind.Chain → not (is_nil d.awaiting) ≡ true → waits k (part.Chain d) ≡ true
waits_by k d e some = ap (λ (x : ProcessKind). waits x (part.Chain d)) e ∙ some

module _ (w : World) (r : ProcessRecord) (k : Chain) (library : List Definition) (c : Checkpoint) (env : Env) (at : IsAtTurn w r k library c env)
    (d : Checkpoint) (calls : List Call) (e : advance library k r.depth env c ≡ submits d calls) where
  abbrev v : World
  v = submitted w r d calls

  abbrev first : ℕ
  first = first_free w r

  abbrev new : List Link
  new = calls_links w r first calls

  abbrev then_at : Checkpoint
  then_at = waiting_at w r d calls

  -- the world with the calls, before the chain is set
  abbrev u : World
  u = with_calls w r (begun w) first calls

  consistent : IsConsistent w
  consistent = at.sound.consistent

  -- ---- the chain waits

  called : EachCall w r (λ n x. has_called u.links r.node (called_number w r n x) ≡ true) first calls
  called =
      each_by w r (λ n x. has_called new r.node (called_number w r n x) ≡ true) (λ n x. has_called u.links r.node (called_number w r n x) ≡ true)
      (λ n x h. any_behind (λ l. is_call_from r.node l && (l.target == called_number w r n x)) w.links new h) first calls (children_called w r first calls)

  checkpoint : checkpoint_fits u r then_at ≡ true
  checkpoint = checkpoint_from u r then_at (record {
    some = (inside w r k library c env at d calls e).0;
    frames = ap (λ (o : Option Definition). list_all (frame_fits (outline_lengths o)) d.frames) at.definition ∙ (inside w r k library c env at d calls e).1;
    awaiting = awaits_called w r u.links first calls called;
    ctx = keys_fit w r k library c env at d calls e (calls_records w r first calls);
    outputs = outputs_fit w r k library c env at d calls e (calls_nodes w r calls);
  })

  set_fit : set_fits u (waits_at w r d calls) r ≡ true
  set_fit =
      and_from (not (has_ended r.state)) _ (ap not (live w r k library c env at))
      (and_from (waits r.kind (part.Chain then_at)) _
      (waits_by r.kind then_at (is_chain w r k library c env at) (some_awaits w r first calls (some_calls w r k library c env at d calls e))) checkpoint)

  -- ---- each change

  workflow : node_of w.nodes r.node ≡ Some made_of.Workflow
  workflow = process_is_node w consistent r at.found ∙ ap (λ (x : ProcessKind). Some (process_node x)) (is_chain w r k library c env at)

  ready : IsReady w r (begun w) first
  ready = ready_first w r consistent at.found workflow (λ q le. none_beyond w r consistent at.found d calls q (omega arith))

  each : (s : Setting) → s.batch ≡ w.batches + 1 → length v.nodes ≤ 8000000
      → Apply s (begun w) (calls_changes w r first calls ++ change.Set (waits_at w r d calls) ∷ [])
  each s b room =
      apply_append s (begun w) (calls_changes w r first calls) (change.Set (waits_at w r d calls) ∷ [])
      (calls_apply w r s (begun w) first calls ready (calls_may w r k library c env at d calls e) (calls_read w r k library c env at d calls e) room)
      (subst (λ (x : World). Apply s x (change.Set (waits_at w r d calls) ∷ [])) (sym (calls_added w r s.batch (begun w) first calls refl))
      ((r, find_grown r.node w.records (calls_records w r first calls) r at.found, set_fit, refl), tt))

  -- ---- all are settled

  abbrev f : ProcessRecord → ProcessRecord
  f = set (w.batches + 1) (waits_at w r d calls)

  count_at : (c' : Checkpoint) → Standing r c' → counted_calls r.part ≡ c'.calls
  count_at c' (begins a b) = ap counted_calls b
  count_at c' (runs x a b) = ap counted_calls b

  bare : has_output r.node w.links ≡ false
  bare = live_without_output w r (its_stand w at.sound r at.found) (live w r k library c env at)

  counted : calls_from r.node w.links ≡ counted_calls r.part
  counted =
      let either : not (has_output r.node w.links) && (calls_from r.node w.links == counted_calls r.part) ≡ true
      = subst (λ (b : Bool). b || (not (has_output r.node w.links) && (calls_from r.node w.links == counted_calls r.part)) ≡ true) (live w r k library c env at)
      (its_stand w at.sound r at.found).settled in
      same_number (calls_from r.node w.links) (counted_calls r.part)
      (and_parts (not (has_output r.node w.links)) (calls_from r.node w.links == counted_calls r.part) either).1

  all_counted : calls_from r.node v.links ≡ d.calls + length calls
  all_counted =
      calls_split r.node w.links new
      ∙ (λ i. (counted ∙ count_at c (stands w r k library c env at) ∙ sym (counts w r k library c env at d calls e).0.0) i + many_calls w r first calls i)

  chain_settles : is_settled v.links (f r) ≡ true
  chain_settles =
      and_from (not (has_output r.node v.links)) (calls_from r.node v.links == (d.calls + length calls))
      (ap not (output_before r.node w.links new (no_outputs w r r.node first calls) ∙ bare))
      (eq-eqb (calls_from r.node v.links) (d.calls + length calls) all_counted)

  child_settles : (n : ℕ) (x : Call) → length w.nodes < n → is_settled v.links (child_record w r n x) ≡ true
  child_settles n x beyond =
      let q : ℕ = called_number w r n x in
      let lt : length w.nodes < called_number w r n x = omega arith in
      and_from (not (has_output q v.links)) (calls_from q v.links == 0) (ap not (gives_nothing w r consistent at.found d calls q lt))
      (eq-eqb (calls_from q v.links) 0 (calls_before q w.links new (new_calls w r consistent at.found d calls q lt)
      ∙ calls_before q [] w.links (old_calls w r consistent at.found d calls q lt)))

  settled : unsettled v.links v.records ≡ None
  settled =
      settled_all v.links v.records
      (All-append (λ x. is_settled v.links x ≡ true) (at_process r.node f w.records) (calls_records w r first calls)
      (all_at_apart (λ x. is_settled v.links x ≡ true) r.node f w.records
      (λ i b lt ne.
      let q : ProcessRecord = get_or w.records i b in
      settled_stays w.links new q (no_outputs w r q.node first calls) (no_calls_of w r q.node first calls (λ same. ne (sym same))) ∙ (consistent.records i b lt).settled)
      (all_found (λ x. is_settled v.links (f x) ≡ true) r.node w.records r (unique 1 w.nodes w.records consistent.numbered) at.found chain_settles))
      (children_all w r (λ x. is_settled v.links x ≡ true) first calls
      (each_by w r (λ n x. length w.nodes + 1 ≤ n) (λ n x. is_settled v.links (child_record w r n x) ≡ true) (λ n x le. child_settles n x (omega (arith, le))) first calls
      (each_beyond w r first first calls (omega arith)))))

  -- Where there is room for the new nodes, the changes are accepted.
  pub calls_accepted : HasPlaces w (length v.nodes) → IsAccepted w (advanced w r k.head.outputs (submits d calls))
  calls_accepted places =
      let cs : List Change = advanced w r k.head.outputs (submits d calls) in
      record {
        batch = places.batches;
        each = each (setting w cs) refl places.nodes;
        settled =
            subst (λ (x : World). unsettled x.links x.records ≡ None) (sym (submits_gives w r k.head.outputs d calls (within w r consistent at.found d calls r.node r at.found))) settled;
      }
