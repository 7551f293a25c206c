-- Where the record of one process is set anew, what holds of the other processes stays.
use Rattle.std.proofs.Common.{◌≡◌, ℕ, suc, ◌<◌, Bool, true, false, Option, Some, None, inl, inr, get_or, refl, sym, ap, subst, ◌∙◌, arith}
use Rattle.std.specs.Prelude.{◌==◌, ◌&&◌, nat_lt, nat_le, if◌then◌else◌, option_map}
use Rattle.std.proofs.lemmas.Bool.{cases_eq, eqb-true}
use Rattle.std.proofs.lemmas.List.Elements.{All-weaker}
use Rattle.wc_value.specs.declared.process.ProcessState.{ProcessState}
use Rattle.wc_syntax.specs.declared.definition.Definition.{Definition}
use Rattle.wc_semantics.specs.declared.outcomes.Parsed.{Parsed}
use Rattle.wc_state.specs.declared.context.CtxRef.{CtxRef}
use Rattle.wc_state.specs.declared.context.CtxRef.TheVariants as held
use Rattle.wc_state.specs.declared.record.Part.{Part}
use Rattle.wc_state.specs.declared.record.Part.TheVariants as part
use Rattle.wc_state.specs.declared.record.ProcessRecord.{ProcessRecord}
use Rattle.wc_world.specs.World.{World}
use Rattle.wc_world.specs.Consistent.{ended_stands, Stands}
use Rattle.wc_world.specs.Records.{find_record, has_ended, has_called}
use Rattle.wc_world.proofs.FoundRecords.{found_holds}
use Rattle.wc_world.proofs.ReachedLists.{at_one_keeps, all_at_apart}
use Rattle.wc_world.proofs.ReachedSources.{SourceIs, source_told}
use Rattle.wc_machine.specs.Created.{GivenFor, killed, cached, function, job, no_request, IsGiven}
use Rattle.wc_machine.specs.Rest.{is_awaited}
use Rattle.wc_machine.specs.Sources.{HaveEqualKeys, IsValidSource, IsSourceFor, IsLowestSource, KeepsRule}
use Rattle.wc_machine.specs.Sound.{TakesItsInputs, IsCaller, CallsAreKept, AwaitsLastCalls, IsEndedCall, HoldsEnded, IsKnownNode, NamesKnown, IsSound}
use Rattle.wc_soundness.specs.Replaced.{IsSet}
use Rattle.wc_soundness.proofs.Replaced.{one_record, after, now, at_it, setting, found_mapped, found_other, unsourced}
use Rattle.wc_soundness.proofs.OthersOnTrack.{over_same}

-- what has a batch in which it ended has ended
pub ended_over : (x : ProcessRecord) → ended_stands x ≡ true → 0 < x.ended → has_ended x.state ≡ true
ended_over x h lt = at (has_ended x.state) refl h
  where
    at : (b : Bool) → has_ended x.state ≡ b → (if b then nat_lt 0 x.ended && nat_le x.started x.ended else (x.ended == 0)) ≡ true → has_ended x.state ≡ true
    at true is h = is
    at false is h = let z : x.ended ≡ 0 = eqb-true x.ended 0 h in absurd (omega arith)

-- what lives has none
pub live_unended : (x : ProcessRecord) → ended_stands x ≡ true → has_ended x.state ≡ false → x.ended ≡ 0
live_unended x h live = eqb-true x.ended 0 (ap (λ (b : Bool). if b then nat_lt 0 x.ended && nat_le x.started x.ended else (x.ended == 0)) (sym live) ∙ h)

module _ (w : World) (batch : ℕ) (r : ProcessRecord) (s : ProcessState) (fuel : ℕ) (p : Part) (i : IsSet w batch r s) (sound : IsSound w) where
  abbrev v : World
  v = after w batch r s fuel p

  abbrev new : ProcessRecord
  new = now w batch r s fuel p

  stands : (n : ℕ) (x : ProcessRecord) → find_record n w.records ≡ Some x → Stands w x
  stands n x h = found_holds (Stands w) n w.records x sound.consistent.records h

  still : (n : ℕ) (x : ProcessRecord) → find_record n w.records ≡ Some x → has_ended x.state ≡ true → find_record n v.records ≡ Some x
  still n x h over = (over_same w batch r s fuel p i sound n (x, h, over)).found ∙ h

  -- ---- what is given for the ended

  given_stays : (n : ℕ) (g : Parsed) → GivenFor w n g → (q : ProcessRecord) → find_record n w.records ≡ Some q → has_ended q.state ≡ true → GivenFor v n g
  given_stays n g (killed x found dead bare) q there over = killed x (still x.node x found (ap has_ended dead)) dead bare
  given_stays n g (cached x source y found alive bare from rest) q there over =
      let same : q ≡ x = one_record (find_record x.node w.records) q x there found in
      let told : SourceIs (λ z. z.ended) w.records x.started (Some source) =
      subst (λ (o : Option ℕ). SourceIs (λ z. z.ended) w.records x.started o) from (source_told w.records x x.cached_from (stands x.node x found).source) in
      let z : ProcessRecord = told.1.0 in
      cached x source y (still x.node x found (ap (λ (k : ProcessRecord). has_ended k.state) (sym same) ∙ over)) alive bare from
      (given_stays source y rest z told.1.1 (ended_over z (stands source z told.1.1).ends told.1.3))
  given_stays n g (function x f found alive none d) q there over =
      let same : q ≡ x = one_record (find_record x.node w.records) q x there found in
      function x f (still x.node x found (ap (λ (k : ProcessRecord). has_ended k.state) (sym same) ∙ over)) alive none d
  given_stays n g (job x j a code files found alive none d is folder asked) q there over =
      let same : q ≡ x = one_record (find_record x.node w.records) q x there found in
      job x j a code files (still x.node x found (ap (λ (k : ProcessRecord). has_ended k.state) (sym same) ∙ over)) alive none d is folder asked
  given_stays n g (no_request x j reason found alive none d bare asked) q there over =
      let same : q ≡ x = one_record (find_record x.node w.records) q x there found in
      no_request x j reason (still x.node x found (ap (λ (k : ProcessRecord). has_ended k.state) (sym same) ∙ over)) alive none d bare asked

  pub is_given_stays : (q : ProcessRecord) → find_record q.node w.records ≡ Some q → has_ended q.state ≡ true → IsGiven w q → IsGiven v q
  is_given_stays q found over g = (g.0, given_stays q.node g.0 g.1 q found over, g.2, g.3)

  -- ---- sources

  valid_back : (b : ℕ) (y : ProcessRecord) → IsValidSource v b y → IsValidSource w b y
  valid_back b y h = record {
    calculates = h.calculates;
    status = h.status;
    finished = h.finished;
    definition = h.definition;
    is_definition = h.is_definition;
    unmarked = h.unmarked;
    ended = h.ended;
    earlier = h.earlier;
  }

  valid_forth : (b : ℕ) (y : ProcessRecord) → IsValidSource w b y → IsValidSource v b y
  valid_forth b y h = record {
    calculates = h.calculates;
    status = h.status;
    finished = h.finished;
    definition = h.definition;
    is_definition = h.is_definition;
    unmarked = h.unmarked;
    ended = h.ended;
    earlier = h.earlier;
  }

  keys_back : (x y : ProcessRecord) → HaveEqualKeys v x y → HaveEqualKeys w x y
  keys_back x y h = record { one = h.one; other = h.other; is_one = h.is_one; is_other = h.is_other; texts = h.texts; inputs = h.inputs }

  keys_forth : (x y : ProcessRecord) → HaveEqualKeys w x y → HaveEqualKeys v x y
  keys_forth x y h = record { one = h.one; other = h.other; is_one = h.is_one; is_other = h.is_other; texts = h.texts; inputs = h.inputs }

  -- of the process itself, whose key stays
  keys_of_it : (y : ProcessRecord) → HaveEqualKeys v new y → HaveEqualKeys w r y
  keys_of_it y h = record { one = h.one; other = h.other; is_one = h.is_one; is_other = h.is_other; texts = h.texts; inputs = h.inputs }

  lowest_stays : (b : ℕ) (x : ProcessRecord) (o : Option ℕ) → IsLowestSource w b x o → IsLowestSource v b x o
  lowest_stays b x None h =
      all_at_apart (λ y. ¬ IsSourceFor v b x y) r.node (setting w batch r s fuel p) w.records
      (λ k d lt ne src. h k d lt (valid_back b (get_or w.records k d) src.0, keys_back x (get_or w.records k d) src.1))
      (λ k d lt e src. i.unfinished src.0.status src.0.finished)
  lowest_stays b x (Some source) h =
      let q : ProcessRecord = h.0.0 in
      let src = h.0.2 in (
        (q, still source q h.0.1 (ap has_ended src.0.finished), (valid_forth b q src.0, keys_forth x q src.1)),
        all_at_apart (λ y. y.node < source → ¬ IsSourceFor v b x y) r.node (setting w batch r s fuel p) w.records
            (λ k d lt ne low src. h.1 k d lt low (valid_back b (get_or w.records k d) src.0, keys_back x (get_or w.records k d) src.1))
            (λ k d lt e low src. i.unfinished src.0.status src.0.finished),
      )

  pub rule_stays : (q : ProcessRecord) → KeepsRule w q → KeepsRule v q
  rule_stays q h = (λ calculates on started. lowest_stays q.started q q.cached_from (h.0 calculates on started), h.1, h.2, h.3)

  none_lower : (b : ℕ) → IsLowestSource w b r None → IsLowestSource v b new None
  none_lower b h =
      all_at_apart (λ y. ¬ IsSourceFor v b new y) r.node (setting w batch r s fuel p) w.records
      (λ k d lt ne src. h k d lt (valid_back b (get_or w.records k d) src.0, keys_of_it (get_or w.records k d) src.1))
      (λ k d lt e src. i.unfinished src.0.status src.0.finished)

  pub rule_now : KeepsRule w r → KeepsRule v new
  rule_now h = (
    λ calculates on started.
        let low : IsLowestSource w r.started r None =
        subst (IsLowestSource w r.started r) (unsourced w batch r s fuel p i sound) (h.0 calculates on (λ e. started (i.start ∙ e))) in
        subst (λ (b : ℕ). IsLowestSource v b new None) (sym i.start) (none_lower r.started low),
    λ off. refl,
    λ unstarted. refl,
    λ other. refl,
  )

  -- ---- inputs

  pub takes_stays : (q : ProcessRecord) (o : Option Definition) → TakesItsInputs w q o → TakesItsInputs v q o
  takes_stays q None h = h
  takes_stays q (Some d) h = h

  pub takes_now : (o : Option Definition) → TakesItsInputs w r o → TakesItsInputs v new o
  takes_now None h = h
  takes_now (Some d) h = h

  -- ---- callers and calls

  pub caller_stays : (q caller : ProcessRecord) → IsCaller w q caller → (c : ProcessRecord) × IsCaller v q c
  caller_stays q caller h =
      let c : ProcessRecord = at_it w batch r s fuel p caller in
      let f = setting w batch r s fuel p in
      let number : c.node ≡ caller.node = at_one_keeps (λ (x : ProcessRecord). x.node) f (λ x. refl) r.node caller in
      let deep : c.depth ≡ caller.depth = at_one_keeps (λ (x : ProcessRecord). x.depth) f (λ x. refl) r.node caller in
      let library : c.library ≡ caller.library = at_one_keeps (λ (x : ProcessRecord). x.library) f (λ x. refl) r.node caller in (
        c,
        (
          ap (λ (n : ℕ). find_record n v.records) number ∙ found_mapped w batch r s fuel p caller.node ∙ ap (option_map (at_it w batch r s fuel p)) h.0,
          ap (λ (n : ℕ). has_called w.links n q.node) number ∙ h.1,
          h.2 ∙ ap suc (sym deep),
          h.3 ∙ sym library,
        ),
      )

  pub calls_stay : (q : ProcessRecord) → CallsAreKept w q → CallsAreKept v q
  calls_stay q h x found called = elim (cases_eq r.node x.node) [
    | inl e ↦
        elim (h r i.found (ap (has_called w.links q.node) e ∙ called)) [
          | inl over ↦ let live = i.live in absurd (cc (over, live))
          | inr lives ↦ inr (lives.0, ap (is_awaited q.part) (sym e) ∙ lives.1)
        ]
    | inr ne ↦ h x (sym (found_other w batch r s fuel p x.node ne) ∙ found) called
  ]

  pub awaits_stay : (q : ProcessRecord) (x : Part) → AwaitsLastCalls w q x → AwaitsLastCalls v q x
  awaits_stay q part.Fresh h = h
  awaits_stay q (part.Chain c) h = h
  awaits_stay q (part.Job j) h = h
  awaits_stay q part.Over h = h

  -- ---- names

  pub ended_call_stays : (q : ProcessRecord) (n : ℕ) → IsEndedCall w q n → IsEndedCall v q n
  ended_call_stays q n h = (h.0, (h.1.0, still n h.1.0 h.1.1 h.1.2, h.1.2))

  pub holds_stays : (q : ProcessRecord) (c : CtxRef) → HoldsEnded w q c → HoldsEnded v q c
  holds_stays q (held.Plain x) h = h
  holds_stays q (held.One n) h = ended_call_stays q n h
  holds_stays q (held.Many ns) h = All-weaker (IsEndedCall w q) (IsEndedCall v q) (ended_call_stays q) ns h

  pub node_stays : (q : ProcessRecord) (id : ℕ) → IsKnownNode w q id → IsKnownNode v q id
  node_stays q id h = elim h [
    | inl a ↦ inl a
    | inr b ↦ inr (b.0, ended_call_stays q b.0 b.1, b.2)
  ]

  pub names_stay : (q : ProcessRecord) (x : Part) → NamesKnown w q x → NamesKnown v q x
  names_stay q part.Fresh h = h
  names_stay q (part.Chain c) h = (
    All-weaker (λ e. HoldsEnded w q e.1) (λ e. HoldsEnded v q e.1) (λ e. holds_stays q e.1) c.ctx h.0,
    All-weaker (λ o. IsKnownNode w q o.1) (λ o. IsKnownNode v q o.1) (λ o. node_stays q o.1) c.outputs h.1,
  )
  names_stay q (part.Job j) h = h
  names_stay q part.Over h = h
