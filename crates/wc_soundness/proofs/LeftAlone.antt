-- What holds of a process by itself stays, where an event leaves it alone.
use Rattle.std.proofs.Common.{◌≡◌, ℕ, suc, ◌<◌, ◌≤◌, Bool, true, false, Option, Some, None, List, ◌++◌, get_or, length, inl, inr, sym, ap, subst, ◌∙◌, arith}
use Rattle.std.specs.Prelude.{◌==◌, ◌&&◌, drop}
use Rattle.std.specs.List.{list_any}
use Rattle.std.proofs.lemmas.Bool.{ne_eqb, or_left}
use Rattle.std.proofs.lemmas.List.Elements.{All-weaker}
use Rattle.std.proofs.lemmas.List.Folds.{list_any-append}
use Rattle.wc_syntax.specs.Findings.{head_of}
use Rattle.wc_syntax.specs.declared.definition.Definition.{Definition}
use Rattle.wc_graph.specs.declared.link.Link.{Link}
use Rattle.wc_graph.specs.declared.node.NodeKind.{NodeKind}
use Rattle.wc_machine.specs.Inputs.{bad_input}
use Rattle.wc_semantics.specs.Tables.{Label}
use Rattle.wc_state.specs.declared.context.CtxRef.{CtxRef}
use Rattle.wc_state.specs.declared.context.CtxRef.TheVariants as held
use Rattle.wc_state.specs.declared.record.Part.{Part}
use Rattle.wc_state.specs.declared.record.Part.TheVariants as part
use Rattle.wc_state.specs.declared.record.ProcessRecord.{ProcessRecord}
use Rattle.wc_world.specs.World.{World}
use Rattle.wc_world.specs.Fits.{has_output}
use Rattle.wc_world.specs.Records.{find_record, has_ended, has_called, calls, gives_output, is_call_from, is_input_of, is_output_of}
use Rattle.wc_world.specs.Trees.{context_of}
use Rattle.wc_world.proofs.FoundRecords.{left}
use Rattle.wc_world.proofs.ReachedLists.{called_grown, found_node}
use Rattle.wc_machine.specs.Recorded.{its_definition}
use Rattle.wc_machine.specs.Rest.{bound_calls, is_awaited}
use Rattle.wc_machine.specs.Sound.{AreAwaited, AreNumbered, AwaitsLastCalls, CallsAreKept, HoldsEnded, IsEndedCall, IsFitting, IsKnownNode, IsPlaced, IsSound, NamesKnown, TakesItsInputs, is_call_to}
use Rattle.wc_machine.proofs.Frames.{NoCallFrom, NoOutput, and_false, any_before, output_before}
use Rattle.wc_soundness.specs.Touches.{AddsFor, Touches, MayBeTouched}
use Rattle.wc_soundness.proofs.Standing.{called_there, definition_same, links_kept, over_found}
use Rattle.wc_soundness.proofs.Touched.{carried_on, first_false, input_no_call, inputs_kept, output_no_call, request_kept, within}

any_grown : (p : Link → Bool) (ls new : List Link) → list_any p ls ≡ true → list_any p (ls ++ new) ≡ true
any_grown p ls new h = list_any-append p ls new ∙ or_left (list_any p ls) (list_any p new) h

-- a new call is to a new process
new_call_to : (nodes : List NodeKind) (pid q : ℕ) → q ≤ length nodes → (l : Link) → AddsFor nodes pid l → is_call_to q l ≡ false
new_call_to nodes pid q le l (inl h) = first_false (calls l.link) (l.target == q) (output_no_call l.link (left (gives_output l.link) (l.source == pid) h))
new_call_to nodes pid q le l (inr (inl h)) = and_false (calls l.link) (l.target == q) (ne_eqb l.target q (λ e. let lt : length nodes < l.target = h.1 in absurd (omega arith)))
new_call_to nodes pid q le l (inr (inr (inl h))) = first_false (calls l.link) (l.target == q) (input_no_call l.link h.0)
new_call_to nodes pid q le l (inr (inr (inr h))) = and_false (calls l.link) (l.target == q) (ne_eqb l.target q (λ e. let lt : length nodes < l.target = h.1 in absurd (omega arith)))

module _ (v w : World) (pid : ℕ) (s : IsSound v) (t : Touches v w pid) (may : MayBeTouched v pid) (r : ProcessRecord) (found : find_record r.node v.records ≡ Some r)
    (quiet : NoCallFrom r.node t.new) (again : (q : ProcessRecord) × (find_record r.node w.records ≡ Some q) × (context_of q.part ≡ context_of r.part)) where
  le : r.node ≤ length v.nodes
  le = within v w pid s t may r.node r found

  grown_called : (caller q : ℕ) → has_called v.links caller q ≡ true → has_called w.links caller q ≡ true
  grown_called caller q h = ap (λ (ls : List Link). has_called ls caller q) t.links ∙ called_grown v.links t.new caller q h

  -- ---- fitting

  takes_by : (o : Option Definition) → TakesItsInputs v r o → TakesItsInputs w r o
  takes_by None h = h
  takes_by (Some d) h = ap (bad_input (head_of d).inputs) (inputs_kept v w pid s t may r.node le) ∙ h

  pub fitting_kept : IsFitting v r → IsFitting w r
  fitting_kept f = record {
    inputs = subst (TakesItsInputs w r) (sym (definition_same v w pid s t may r found quiet again)) (takes_by (its_definition v r) f.inputs);
    request = λ j. let q = f.request j in (q.0, request_kept v w pid s t may r found ∙ q.1);
    code = f.code;
    source = f.source;
    started = f.started;
    awaiting = f.awaiting;
    outputs = f.outputs;
  }

  -- ---- its place

  pub placed_kept : IsPlaced v r → IsPlaced w r
  placed_kept p = record {
    root = λ one.
        let o = p.root one in (
          ap (list_any (is_call_to r.node)) t.links
              ∙ any_before (is_call_to r.node) v.links t.new (λ i d lt. new_call_to v.nodes pid r.node le (get_or t.new i d) (t.added i d lt))
              ∙ o.0,
          o.1,
        );
    called = λ ne.
        let c = p.called ne in
        let k = carried_on v w pid s t may c.0 c.1.0 in (
          k.0,
          (
            ap (λ (n : ℕ). find_record n w.records) k.2.node ∙ k.1,
            ap (λ (n : ℕ). has_called w.links n r.node) k.2.node ∙ grown_called c.0.node r.node c.1.1,
            c.1.2 ∙ ap suc (sym k.2.depth),
            c.1.3 ∙ sym k.2.library,
          ),
        );
    numbered = subst (AreNumbered 1) (sym (links_kept v w pid s t may r found quiet again)) p.numbered;
  }

  -- ---- its calls

  called_same : (q : ℕ) → has_called w.links r.node q ≡ has_called v.links r.node q
  called_same q =
      ap (λ (ls : List Link). has_called ls r.node q) t.links
      ∙ any_before (λ l. is_call_from r.node l && (l.target == q)) v.links t.new
      (All-weaker (λ l. is_call_from r.node l ≡ false) (λ l. is_call_from r.node l && (l.target == q) ≡ false) (λ l e. first_false (is_call_from r.node l) (l.target == q) e) t.new quiet)

  pub calls_kept : CallsAreKept v r → CallsAreKept w r
  calls_kept k q is called =
      let before : has_called v.links r.node q.node ≡ true = sym (called_same q.node) ∙ called in
      let x = called_there v w pid s t may r found q.node before in
      let number : x.0.node ≡ q.node = found_node q.node v.records x.0 x.1 in
      let itself : find_record x.0.node v.records ≡ Some x.0 = ap (λ (n : ℕ). find_record n v.records) number ∙ x.1 in
      elim (k x.0 itself (ap (has_called v.links r.node) number ∙ before)) [
        | inl over ↦
            let there : find_record q.node w.records ≡ Some x.0 = over_found v w pid s t may q.node (x.0, x.1, over) ∙ x.1 in
            let e : Some q ≡ Some x.0 = sym is ∙ there in
            let same : q ≡ x.0 = cc in
            inl (ap (λ (y : ProcessRecord). has_ended y.state) same ∙ over)
        | inr lives ↦ inr (lives.0, ap (is_awaited r.part) (sym number) ∙ lives.1)
      ]

  awaits_by : (p : Part) → AwaitsLastCalls v r p → AwaitsLastCalls w r p
  awaits_by part.Fresh h = h
  awaits_by (part.Chain c) h =
      subst (λ (ls : List Link). AreAwaited (suc (bound_calls c)) (drop (bound_calls c) ls) c.awaiting) (sym (links_kept v w pid s t may r found quiet again)) h
  awaits_by (part.Job j) h = h
  awaits_by part.Over h = h

  pub awaits_kept : AwaitsLastCalls v r r.part → AwaitsLastCalls w r r.part
  awaits_kept = awaits_by r.part

  -- ---- names

  ended_kept : (q : ℕ) → IsEndedCall v r q → IsEndedCall w r q
  ended_kept q e = (grown_called r.node q e.0, (e.1.0, over_found v w pid s t may q (e.1.0, e.1.1, e.1.2) ∙ e.1.1, e.1.2))

  holds_kept : (c : CtxRef) → HoldsEnded v r c → HoldsEnded w r c
  holds_kept (held.Plain x) h = h
  holds_kept (held.One q) h = ended_kept q h
  holds_kept (held.Many qs) h = All-weaker (IsEndedCall v r) (IsEndedCall w r) ended_kept qs h

  known_kept : (id : ℕ) → IsKnownNode v r id → IsKnownNode w r id
  known_kept id (inl h) =
      inl (ap (list_any (λ l. is_input_of r.node l && (l.source == id))) t.links ∙ any_grown (λ l. is_input_of r.node l && (l.source == id)) v.links t.new h)
  known_kept id (inr h) = inr (
    h.0,
    ended_kept h.0 h.1,
    ap (list_any (λ l. is_output_of h.0 l && (l.target == id))) t.links ∙ any_grown (λ l. is_output_of h.0 l && (l.target == id)) v.links t.new h.2,
  )

  names_by : (p : Part) → NamesKnown v r p → NamesKnown w r p
  names_by part.Fresh h = h
  names_by (part.Chain c) h = (
    All-weaker (λ (e : Label × CtxRef). HoldsEnded v r e.1) (λ (e : Label × CtxRef). HoldsEnded w r e.1) (λ e. holds_kept e.1) c.ctx h.0,
    All-weaker (λ (o : Label × ℕ). IsKnownNode v r o.1) (λ (o : Label × ℕ). IsKnownNode w r o.1) (λ o. known_kept o.1) c.outputs h.1,
  )
  names_by (part.Job j) h = h
  names_by part.Over h = h

  pub names_kept : NamesKnown v r r.part → NamesKnown w r r.part
  names_kept = names_by r.part

  pub bare_kept : NoOutput r.node t.new → has_output r.node w.links ≡ has_output r.node v.links
  bare_kept none = ap (has_output r.node) t.links ∙ output_before r.node v.links t.new none
