-- A world with one process more: fitting records, calls and fuel.
use Rattle.std.proofs.Common.{◌≡◌, ℕ, suc, ◌+◌, ◌≤◌, Bool, true, false, Option, Some, None, List, [], ◌∷◌, ◌++◌, length, drop, inl, inr, refl, sym, ap, ◌∙◌, subst, arith}
use Rattle.std.specs.Prelude.{All, ◌==◌, ◌&&◌, ◌||◌, not, if◌then◌else◌}
use Rattle.std.specs.List.{list_any}
use Rattle.std.proofs.lemmas.Bool.{cases_Bool, cond-false, eqb-true, or_left}
use Rattle.std.proofs.lemmas.List.{length-append}
use Rattle.std.proofs.lemmas.List.Elements.{All-weaker}
use Rattle.std.proofs.lemmas.List.Folds.{list_any-append}
use Rattle.wc_syntax.specs.Findings.{head_of}
use Rattle.wc_syntax.specs.declared.definition.Definition.{Definition}
use Rattle.wc_graph.specs.declared.link.Link.{Link}
use Rattle.wc_meaning.specs.Inputs.{bad_input}
use Rattle.wc_semantics.specs.Tables.{Label}
use Rattle.wc_state.specs.declared.context.CtxRef.{CtxRef}
use Rattle.wc_state.specs.declared.context.CtxRef.TheVariants as held
use Rattle.wc_state.specs.declared.record.Part.{Part}
use Rattle.wc_state.specs.declared.record.Part.TheVariants as part
use Rattle.wc_state.specs.declared.record.ProcessRecord.{ProcessRecord}
use Rattle.wc_world.specs.Applied.{made}
use Rattle.wc_world.specs.Consistent.{IsConsistent, Stands}
use Rattle.wc_world.specs.Records.{find_record, has_ended, has_called, calls, is_call_from, is_input_of, is_output_of}
use Rattle.wc_world.specs.World.{World}
use Rattle.wc_records.specs.declared.change.NewProcess.{NewProcess}
use Rattle.wc_world.proofs.ReachedLists.{called_grown}
use Rattle.wc_machine.specs.Recorded.{its_definition}
use Rattle.wc_machine.specs.Rest.{is_awaited, bound_calls}
use Rattle.wc_machine.specs.Paths.{call_links}
use Rattle.wc_machine.specs.Sound.{TakesItsInputs, IsFitting, AreNumbered, is_call_to, IsPlaced, CallsAreKept, AreAwaited, AwaitsLastCalls, IsEndedCall, HoldsEnded, IsKnownNode, NamesKnown, is_awaited_in, fuel_in}
use Rattle.wc_machine.proofs.Frames.{and_false, find_before, any_before, filter_before, no_call_beyond, none_target_beyond}
use Rattle.wc_machine.proofs.OneMore.{Addition, added, grown, no_calls_from, found_again, inputs_kept, definition_kept, number_within, stands, request_kept}

any_grown : (p : Link → Bool) (ls new : List Link) → list_any p ls ≡ true → list_any p (ls ++ new) ≡ true
any_grown p ls new h = list_any-append p ls new ∙ or_left (list_any p ls) (list_any p new) h

not_both : (t : Bool) → t ≡ true → t ≡ false → ⊥
not_both t p q = absurd (cc)

-- ---- fuel

fuel_by : (a b : List ProcessRecord) → ((pid : ℕ) → is_awaited_in a pid ≡ is_awaited_in b pid) → (rs : List ProcessRecord) → fuel_in a rs ≡ fuel_in b rs
fuel_by a b same [] = refl
fuel_by a b same (r ∷ rs) =
    λ i. if not (has_ended r.state) || same r.node i then suc r.fuel + fuel_by a b same rs i else fuel_by a b same rs i

-- a new process awaits nothing
awaited_same : (number : ℕ) (n : NewProcess) (rs : List ProcessRecord) (pid : ℕ) → is_awaited_in (rs ++ made number n ∷ []) pid ≡ is_awaited_in rs pid
awaited_same number n [] pid = refl
awaited_same number n (r ∷ rs) pid = ap (λ (b : Bool). is_awaited r.part pid || b) (awaited_same number n rs pid)

fuel_push : (number : ℕ) (n : NewProcess) (a rs : List ProcessRecord) → fuel_in a (rs ++ made number n ∷ []) ≡ fuel_in a rs + 1
fuel_push number n a [] = refl
fuel_push number n a (r ∷ rs) = at (not (has_ended r.state) || is_awaited_in a r.node) (fuel_push number n a rs)
  where
    at : (b : Bool) → fuel_in a (rs ++ made number n ∷ []) ≡ fuel_in a rs + 1
        → (if b then suc r.fuel + fuel_in a (rs ++ made number n ∷ []) else fuel_in a (rs ++ made number n ∷ []))
        ≡ (if b then suc r.fuel + fuel_in a rs else fuel_in a rs) + 1
    at true e = omega arith
    at false e = e

module _ (w : World) (h : IsConsistent w) (add : Addition w) where
  pub fuel_kept : fuel_in w.records w.records ≤ w.batches + length w.nodes → add.batches ≡ w.batches + 1
      → fuel_in (grown w add).records (grown w add).records ≤ (grown w add).batches + length (grown w add).nodes
  fuel_kept le more =
      let v = grown w add in
      let a : fuel_in v.records v.records ≡ fuel_in v.records w.records + 1 = fuel_push add.number add.process v.records w.records in
      let b : fuel_in v.records w.records ≡ fuel_in w.records w.records
      = fuel_by v.records w.records (awaited_same add.number add.process w.records) w.records in
      let c : length (w.nodes ++ add.nodes) ≡ length w.nodes + length add.nodes = length-append w.nodes add.nodes in
      omega arith

  -- ---- fitting records

  takes_by : (r : ProcessRecord) → r.node ≤ length w.nodes → (o : Option Definition) → TakesItsInputs w r o → TakesItsInputs (grown w add) r o
  takes_by r le None t = t
  takes_by r le (Some d) t = ap (bad_input (head_of d).inputs) (inputs_kept w h add r.node le) ∙ t

  pub fitting_kept : (r : ProcessRecord) → find_record r.node w.records ≡ Some r → IsFitting w r → IsFitting (grown w add) r
  fitting_kept r found f =
      let s : Stands w r = stands w h add r.node r found in
      let le = number_within w h add r.node r found in
      record {
        inputs = subst (TakesItsInputs (grown w add) r) (sym (definition_kept w h add r s)) (takes_by r le (its_definition w r) f.inputs);
        request = λ j. let q = f.request j in (q.0, request_kept w h add r s le ∙ q.1);
        code = f.code;
        source = f.source;
        started = f.started;
        awaiting = f.awaiting;
        outputs = f.outputs;
      }

  -- ---- calls

  no_call_to : (pid : ℕ) → All (λ l. is_call_to pid l ≡ false) add.links
  no_call_to pid = All-weaker (λ l. calls l.link ≡ false) (λ l. is_call_to pid l ≡ false) (λ l e. ap (λ (b : Bool). b && (l.target == pid)) e) add.links add.calls

  call_links_kept : (pid : ℕ) → call_links (grown w add) pid ≡ call_links w pid
  call_links_kept pid = filter_before (is_call_from pid) w.links add.links (no_calls_from w h add pid)

  new_calls_nothing : call_links (grown w add) add.number ≡ []
  new_calls_nothing =
      call_links_kept add.number ∙ filter_before (is_call_from add.number) [] w.links (no_call_beyond w.nodes add.number w.links add.beyond h.links.ends)

  called_before : (caller pid : ℕ) → has_called (grown w add).links caller pid ≡ has_called w.links caller pid
  called_before caller pid =
      any_before (λ l. is_call_from caller l && (l.target == pid)) w.links add.links
      (All-weaker (λ l. is_call_from caller l ≡ false) (λ l. is_call_from caller l && (l.target == pid) ≡ false)
      (λ l e. ap (λ (b : Bool). b && (l.target == pid)) e) add.links (no_calls_from w h add caller))

  new_is_not_called : (caller : ℕ) → has_called w.links caller add.number ≡ false
  new_is_not_called caller =
      any_before (λ l. is_call_from caller l && (l.target == add.number)) [] w.links
      (All-weaker (λ l. (l.target == add.number) ≡ false) (λ l. is_call_from caller l && (l.target == add.number) ≡ false)
      (λ l e. and_false (is_call_from caller l) (l.target == add.number) e) w.links
      (none_target_beyond w.nodes add.number w.links add.beyond h.links.ends))

  new_has_not_called : (pid : ℕ) → has_called w.links add.number pid ≡ false
  new_has_not_called pid =
      any_before (λ l. is_call_from add.number l && (l.target == pid)) [] w.links
      (All-weaker (λ l. is_call_from add.number l ≡ false) (λ l. is_call_from add.number l && (l.target == pid) ≡ false)
      (λ l e. ap (λ (b : Bool). b && (l.target == pid)) e) w.links (no_call_beyond w.nodes add.number w.links add.beyond h.links.ends))

  pub placed_kept : (r : ProcessRecord) → IsPlaced w r → IsPlaced (grown w add) r
  placed_kept r s = record {
    root = λ one. let o = s.root one in (any_before (is_call_to r.node) w.links add.links (no_call_to r.node) ∙ o.0, o.1);
    called = λ ne.
        let c = s.called ne in
        (c.0, (found_again w h add c.0.node c.0 c.1.0, called_grown w.links add.links c.0.node r.node c.1.1, c.1.2, c.1.3));
    numbered = subst (AreNumbered 1) (sym (call_links_kept r.node)) s.numbered;
  }

  pub placed_new : add.process.depth ≡ 1 → add.process.label ≡ [] → IsPlaced (grown w add) (added w add)
  placed_new one none = record {
    root = λ e. (
      any_before (is_call_to add.number) w.links add.links (no_call_to add.number)
          ∙ any_before (is_call_to add.number) [] w.links
          (All-weaker (λ l. (l.target == add.number) ≡ false) (λ l. is_call_to add.number l ≡ false)
          (λ l e. and_false (calls l.link) (l.target == add.number) e) w.links (none_target_beyond w.nodes add.number w.links add.beyond h.links.ends)),
      none,
    );
    called = λ ne. absurd (ne one);
    numbered = subst (AreNumbered 1) (sym new_calls_nothing) tt;
  }

  pub calls_kept : (r : ProcessRecord) → CallsAreKept w r → CallsAreKept (grown w add) r
  calls_kept r k q found called =
      let before : has_called w.links r.node q.node ≡ true = sym (called_before r.node q.node) ∙ called in
      elim (cases_Bool (add.number == q.node)) [
        | inl same ↦
            let e : add.number ≡ q.node = eqb-true add.number q.node same in
            absurd (not_both (has_called w.links r.node q.node) before (ap (has_called w.links r.node) (sym e) ∙ new_is_not_called r.node))
        | inr other ↦
            k q (sym (find_before q.node w.records (added w add ∷ []) (cond-false (add.number == q.node) (Some (added w add)) None other)) ∙ found) before
      ]

  pub calls_new : CallsAreKept (grown w add) (added w add)
  calls_new q found called =
      absurd (not_both (has_called w.links add.number q.node) (sym (called_before add.number q.node) ∙ called) (new_has_not_called q.node))

  pub awaits_kept : (r : ProcessRecord) (p : Part) → AwaitsLastCalls w r p → AwaitsLastCalls (grown w add) r p
  awaits_kept r part.Fresh s = s
  awaits_kept r (part.Chain c) s = subst (λ (ls : List Link). AreAwaited (suc (bound_calls c)) (drop (bound_calls c) ls) c.awaiting) (sym (call_links_kept r.node)) s
  awaits_kept r (part.Job j) s = s
  awaits_kept r part.Over s = s

  -- ---- names

  ended_kept : (r : ProcessRecord) (pid : ℕ) → IsEndedCall w r pid → IsEndedCall (grown w add) r pid
  ended_kept r pid e = (called_grown w.links add.links r.node pid e.0, (e.1.0, found_again w h add pid e.1.0 e.1.1, e.1.2))

  holds_kept : (r : ProcessRecord) (c : CtxRef) → HoldsEnded w r c → HoldsEnded (grown w add) r c
  holds_kept r (held.Plain v) s = s
  holds_kept r (held.One pid) s = ended_kept r pid s
  holds_kept r (held.Many pids) s = All-weaker (IsEndedCall w r) (IsEndedCall (grown w add) r) (ended_kept r) pids s

  known_kept : (r : ProcessRecord) (id : ℕ) → IsKnownNode w r id → IsKnownNode (grown w add) r id
  known_kept r id (inl s) = inl (any_grown (λ l. is_input_of r.node l && (l.source == id)) w.links add.links s)
  known_kept r id (inr s) = inr (s.0, ended_kept r s.0 s.1, any_grown (λ l. is_output_of s.0 l && (l.target == id)) w.links add.links s.2)

  pub names_kept : (r : ProcessRecord) (p : Part) → NamesKnown w r p → NamesKnown (grown w add) r p
  names_kept r part.Fresh s = s
  names_kept r (part.Chain c) s = (
    All-weaker (λ (e : Label × CtxRef). HoldsEnded w r e.1) (λ (e : Label × CtxRef). HoldsEnded (grown w add) r e.1) (λ e. holds_kept r e.1) c.ctx s.0,
    All-weaker (λ (o : Label × ℕ). IsKnownNode w r o.1) (λ (o : Label × ℕ). IsKnownNode (grown w add) r o.1) (λ o. known_kept r o.1) c.outputs s.1,
  )
  names_kept r (part.Job j) s = s
  names_kept r part.Over s = s
