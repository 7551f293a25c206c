-- What a sound world asks of the record of a chain that waits for the calls that it submitted.
use Rattle.std.proofs.Common.{◌≡◌, inl, inr, ℕ, suc, ◌+◌, ◌<◌, ◌≤◌, Bool, true, false, List, ◌++◌, Option, Some, None, length, drop, get_or, refl, sym, ap, subst, ◌∙◌, arith}
use Rattle.std.specs.Prelude.{◌==◌, ◌&&◌, ◌||◌}
use Rattle.std.specs.List.{list_any}
use Rattle.std.proofs.lemmas.Bool.{ne_eqb, or_cases, or_left}
use Rattle.std.proofs.lemmas.List.{drop-append-le, drop_all}
use Rattle.std.proofs.lemmas.List.Elements.{All-weaker}
use Rattle.std.proofs.lemmas.List.Folds.{list_any-append}
use Rattle.wc_syntax.specs.Findings.{head_of}
use Rattle.wc_syntax.specs.declared.definition.Chain.{Chain}
use Rattle.wc_syntax.specs.declared.definition.Definition.{Definition}
use Rattle.wc_syntax.specs.declared.definition.Definition.TheVariants as definition
use Rattle.wc_graph.specs.declared.link.Link.{Link}
use Rattle.wc_graph.specs.declared.node.NodeKind.{NodeKind}
use Rattle.wc_machine.specs.Inputs.{bad_input}
use Rattle.wc_semantics.specs.Tables.{Label}
use Rattle.wc_state.specs.declared.context.CtxRef.{CtxRef}
use Rattle.wc_state.specs.declared.context.CtxRef.TheVariants as held
use Rattle.wc_state.specs.declared.record.Checkpoint.{Checkpoint}
use Rattle.wc_state.specs.declared.record.ProcessRecord.{ProcessRecord}
use Rattle.wc_world.specs.World.{World}
use Rattle.wc_world.specs.Records.{calls as is_call, find_record, gives_output, has_called, has_ended, is_call_from, is_input_of, is_output_of}
use Rattle.wc_world.proofs.FoundRecords.{found_holds, left}
use Rattle.wc_machine.specs.Calls.{awaits}
use Rattle.wc_machine.specs.Paths.{call_links}
use Rattle.wc_machine.specs.Rest.{bound_calls, is_awaited}
use Rattle.wc_machine.specs.Sound.{AreAwaited, AreNumbered, AwaitsLastCalls, CallsAreKept, HoldsEnded, IsEndedCall, IsFitting, IsKnownNode, IsPlaced, NamesKnown, TakesItsInputs, is_call_to}
use Rattle.wc_machine.specs.Steps.{Call}
use Rattle.wc_machine.proofs.Frames.{and_false, any_before}
use Rattle.wc_soundness.specs.Touches.{AddsFor}
use Rattle.wc_soundness.proofs.Standing.{over_found}
use Rattle.wc_soundness.proofs.Touched.{carried_on, first_false, input_no_call, inputs_kept, output_no_call}
use Rattle.wc_turn_laws.specs.OutlineLaws as outline
use Rattle.wc_soundness.proofs.ChainStanding.{its_fit}
use Rattle.wc_soundness.specs.Submitted.{links_of_calls}
use Rattle.wc_soundness.proofs.Calling.{IsCalling, bound_now, definition_now, le, many_calls, may, over_called, s, then_at, touched}
use Rattle.wc_soundness.proofs.NewCalls.{all_differ, are_awaited, are_numbered, called_among, called_is_awaited, numbered_append}

any_grown : (p : Link → Bool) (ls new : List Link) → list_any p ls ≡ true → list_any p (ls ++ new) ≡ true
any_grown p ls new h = list_any-append p ls new ∙ or_left (list_any p ls) (list_any p new) h

-- a new call is to a new process
new_call_to : (nodes : List NodeKind) (pid q : ℕ) → q ≤ length nodes → (l : Link) → AddsFor nodes pid l → is_call_to q l ≡ false
new_call_to nodes pid q le l (inl h) = first_false (is_call l.link) (l.target == q) (output_no_call l.link (left (gives_output l.link) (l.source == pid) h))
new_call_to nodes pid q le l (inr (inl h)) = and_false (is_call l.link) (l.target == q) (ne_eqb l.target q (λ e. let lt : length nodes < l.target = h.1 in absurd (omega (arith, le, lt, e))))
new_call_to nodes pid q le l (inr (inr (inl h))) = first_false (is_call l.link) (l.target == q) (input_no_call l.link h.0)
new_call_to nodes pid q le l (inr (inr (inr h))) = and_false (is_call l.link) (l.target == q) (ne_eqb l.target q (λ e. let lt : length nodes < l.target = h.1 in absurd (omega (arith, le, lt, e))))

module _ (w v : World) (r : ProcessRecord) (k : Chain) (library : List Definition) (c d : Checkpoint) (calls : List Call) (on : IsCalling w v r k library c d calls) where
  abbrev now : ProcessRecord
  now = s w v r k library c d calls on

  abbrev at : Checkpoint
  at = then_at w v r k library c d calls on

  abbrev new : List Link
  new = links_of_calls w r (length w.nodes + 1) calls

  low : r.node ≤ length w.nodes
  low = le w v r k library c d calls on

  -- ---- fitting

  takes_by : (o : Option Definition) → TakesItsInputs w r o → TakesItsInputs v now o
  takes_by None h = h
  takes_by (Some x) h = ap (bad_input (head_of x).inputs) (inputs_kept w v r.node on.sound (touched w v r k library c d calls on) (may w v r k library c d calls on) r.node low) ∙ h

  pub fits_now : IsFitting v now
  fits_now =
      let f = its_fit w on.sound r on.found in
      record {
        inputs = subst (TakesItsInputs v now) (sym (definition_now w v r k library c d calls on)) (takes_by (Some (definition.Chain k)) (subst (TakesItsInputs w r) on.definition f.inputs));
        request = λ e. absurd (cc e);
        code = λ e. refl;
        source = λ e. refl;
        started = λ e. absurd (cc e);
        awaiting = all_differ w r (length w.nodes + 1) calls;
        outputs = on.ascend;
      }

  -- ---- calls

  grown_called : (caller q : ℕ) → has_called w.links caller q ≡ true → has_called v.links caller q ≡ true
  grown_called caller q h =
      ap (λ (ls : List Link). has_called ls caller q) (touched w v r k library c d calls on).links
      ∙ any_grown (λ l. is_call_from caller l && (l.target == q)) w.links (touched w v r k library c d calls on).new h

  called_now : (q : ℕ) → has_called v.links r.node q ≡ (has_called w.links r.node q || is_awaited now.part q)
  called_now q =
      called_among r.node q v.links
      ∙ ap (list_any (λ l. l.target == q)) on.submitted.links
      ∙ list_any-append (λ l. l.target == q) (call_links w r.node) new
      ∙ (λ i. sym (called_among r.node q w.links) i || called_is_awaited w r q (length w.nodes + 1) calls i)

  pub calls_now : CallsAreKept v now
  calls_now q there called = elim (or_cases (has_called w.links r.node q.node) (is_awaited now.part q.node) (sym (called_now q.node) ∙ called)) [
    | inl earlier ↦
        let over = over_called w v r k library c d calls on q.node earlier in
        let still : find_record q.node v.records ≡ Some over.0
        = over_found w v r.node on.sound (touched w v r k library c d calls on) (may w v r k library c d calls on) q.node over ∙ over.1 in
        let same : Some q ≡ Some over.0 = sym there ∙ still in
        let one : q ≡ over.0 = cc in
        inl (ap (λ (x : ProcessRecord). has_ended x.state) one ∙ over.2)
    | inr awaited ↦ inr (refl, awaited)
  ]

  -- ---- what it awaits, and its place

  drop_front : (n : ℕ) (xs ys : List Link) → n ≡ length xs → drop n (xs ++ ys) ≡ ys
  drop_front n xs ys e = drop-append-le n xs ys (omega (arith, e)) ∙ ap (λ (ls : List Link). ls ++ ys) (drop_all n xs (omega (arith, e)))

  pub awaits_now : AwaitsLastCalls v now now.part
  awaits_now =
      let bound = bound_now w v r k library c d calls on in
      let last : drop (bound_calls at) (call_links v r.node) ≡ new = ap (drop (bound_calls at)) on.submitted.links ∙ drop_front (bound_calls at) (call_links w r.node) new bound in
      let number : c.calls + 1 ≡ suc (bound_calls at) = let many = many_calls w v r k library c d calls on in omega (arith, bound, many) in
      subst (λ (ls : List Link). AreAwaited (suc (bound_calls at)) ls (awaits w r (length w.nodes + 1) calls)) (sym last)
      (are_awaited w r (suc (bound_calls at)) (length w.nodes + 1) calls (subst (λ (n : ℕ). outline.AreNumbered n calls) number on.numbered))

  pub placed_now : IsPlaced v now
  placed_now =
      let p : IsPlaced w r = found_holds (IsPlaced w) r.node w.records r on.sound.placed on.found in
      let number : c.calls + 1 ≡ 1 + length (call_links w r.node) = let many = many_calls w v r k library c d calls on in omega (arith, many) in
      record {
        root = λ one.
            let o = p.root one in (
              ap (list_any (is_call_to r.node)) (touched w v r k library c d calls on).links
                  ∙ any_before (is_call_to r.node) w.links (touched w v r k library c d calls on).new
                  (λ i b lt. new_call_to w.nodes r.node r.node low (get_or (touched w v r k library c d calls on).new i b) ((touched w v r k library c d calls on).added i b lt))
                  ∙ o.0,
              o.1,
            );
        called = λ ne.
            let x = p.called ne in
            let y = carried_on w v r.node on.sound (touched w v r k library c d calls on) (may w v r k library c d calls on) x.0 x.1.0 in (
              y.0,
              (
                ap (λ (n : ℕ). find_record n v.records) y.2.node ∙ y.1,
                ap (λ (n : ℕ). has_called v.links n r.node) y.2.node ∙ grown_called x.0.node r.node x.1.1,
                x.1.2 ∙ ap suc (sym y.2.depth),
                x.1.3 ∙ sym y.2.library,
              ),
            );
        numbered = subst (AreNumbered 1) (sym on.submitted.links)
            (numbered_append 1 (call_links w r.node) new p.numbered
            (are_numbered w r (1 + length (call_links w r.node)) (length w.nodes + 1) calls (subst (λ (n : ℕ). outline.AreNumbered n calls) number on.numbered)));
      }

  -- ---- names

  ended_kept : (q : ℕ) → IsEndedCall w r q → IsEndedCall v now q
  ended_kept q e = (
    grown_called r.node q e.0,
    (
      e.1.0,
      over_found w v r.node on.sound (touched w v r k library c d calls on) (may w v r k library c d calls on) q (e.1.0, e.1.1, e.1.2) ∙ e.1.1,
      e.1.2,
    ),
  )

  holds_kept : (x : CtxRef) → HoldsEnded w r x → HoldsEnded v now x
  holds_kept (held.Plain x) h = h
  holds_kept (held.One q) h = ended_kept q h
  holds_kept (held.Many qs) h = All-weaker (IsEndedCall w r) (IsEndedCall v now) ended_kept qs h

  known_kept : (id : ℕ) → IsKnownNode w r id → IsKnownNode v now id
  known_kept id (inl h) = inl (ap (list_any (λ l. is_input_of r.node l && (l.source == id))) (touched w v r k library c d calls on).links
      ∙ any_grown (λ l. is_input_of r.node l && (l.source == id)) w.links (touched w v r k library c d calls on).new h)
  known_kept id (inr h) = inr (
    h.0,
    ended_kept h.0 h.1,
    ap (list_any (λ l. is_output_of h.0 l && (l.target == id))) (touched w v r k library c d calls on).links
        ∙ any_grown (λ l. is_output_of h.0 l && (l.target == id)) w.links (touched w v r k library c d calls on).new h.2,
  )

  pub names_now : NamesKnown v now now.part
  names_now = (
    All-weaker (λ (e : Label × CtxRef). HoldsEnded w r e.1) (λ (e : Label × CtxRef). HoldsEnded v now e.1) (λ e. holds_kept e.1) d.ctx on.keys,
    All-weaker (λ (o : Label × ℕ). IsKnownNode w r o.1) (λ (o : Label × ℕ). IsKnownNode v now o.1) (λ o. known_kept o.1) d.outputs on.names,
  )
