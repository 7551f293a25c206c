-- The end of a created calculation keeps a world sound.
use Rattle.std.proofs.Common.{◌≡◌, ◌≢◌, ℕ, ℤ, suc, ◌+◌, ◌⊎◌, ◌<◌, ◌≤◌, Bool, true, false, Option, Some, None, List, ◌++◌, length, get_or, inl, inr, refl, sym, ap, subst, ◌∙◌, arith}
use Rattle.std.specs.Prelude.{All, ◌==◌, ◌&&◌, not, if◌then◌else◌}
use Rattle.std.proofs.lemmas.Bool.{cases_eq}
use Rattle.std.proofs.lemmas.List.{length-append}
use Rattle.std.proofs.lemmas.List.Elements.{All-weaker}
use Rattle.std.proofs.lemmas.List.Folds.{list_any_none}
use Rattle.wc_value.specs.declared.process.ProcessState.{ProcessState}
use Rattle.wc_value.specs.declared.process.ProcessState.TheVariants as state
use Rattle.wc_syntax.specs.Findings.{head_of}
use Rattle.wc_syntax.specs.declared.definition.Definition.{Definition}
use Rattle.wc_semantics.specs.declared.outcomes.Parsed.{Parsed}
use Rattle.wc_machine.specs.Inputs.{bad_input}
use Rattle.wc_state.specs.declared.record.Part.{Part}
use Rattle.wc_state.specs.declared.record.Part.TheVariants as part
use Rattle.wc_state.specs.declared.record.ProcessKind.{ProcessKind}
use Rattle.wc_state.specs.declared.record.ProcessRecord.{ProcessRecord}
use Rattle.wc_world.specs.World.{World}
use Rattle.wc_world.specs.Applied.{is_created, is_killed, source_of}
use Rattle.wc_world.specs.Consistent.{Stands, IsConsistent}
use Rattle.wc_world.specs.Fits.{part_fits}
use Rattle.wc_world.specs.Records.{find_record, has_ended, has_called, is_calculation, calls, is_call_from}
use Rattle.wc_world.specs.Snapshot.{number_of}
use Rattle.wc_world.proofs.FoundRecords.{found_holds}
use Rattle.wc_world.proofs.ReachedLists.{AreUnique, unique, all_found, called_grown}
use Rattle.wc_machine.specs.Continues.{Carries, Continues}
use Rattle.wc_machine.specs.Created.{GivenFor}
use Rattle.wc_machine.specs.Ends.{TakesSource}
use Rattle.wc_machine.specs.Recorded.{its_definition, recorded_inputs, recorded_outputs}
use Rattle.wc_machine.specs.Rest.{is_awaited}
use Rattle.wc_machine.specs.Sound.{TakesItsInputs, IsFitting, IsPlaced, CallsAreKept, AreNumbered, is_call_to, IsMeant, fuel_in, IsSound, KeepsFew}
use Rattle.wc_machine.specs.Sources.{KeepsRule, KeepsCacheRule}
use Rattle.wc_machine.specs.Submissions.{AreInputs}
use Rattle.wc_machine.proofs.AcceptedEnds.{live_without_output}
use Rattle.wc_machine.proofs.ContinuedEnds.{carried_itself}
use Rattle.wc_machine.proofs.CreatedOutputs.{creates_no_call}
use Rattle.wc_machine.proofs.EndedWorlds.{inputs_kept, outputs_of_end, found_end, upward_after}
use Rattle.wc_machine.proofs.Endings.{data_nodes, creates, end_record, ended_world, applied_ends}
use Rattle.wc_machine.proofs.Frames.{NoCalls, no_call_from, any_before, filter_before, records_below}
use Rattle.wc_soundness.specs.Touches.{Touches, MayBeTouched, EndsLate, IsSoundRecord}
use Rattle.wc_soundness.proofs.Others.{others_stay_sound, sound_by_records}
use Rattle.wc_soundness.proofs.Touched.{ended_stay, touching_continues}
use Rattle.wc_soundness.proofs.TouchingEvents.{ends_touch}
use Rattle.wc_soundness.specs.Starts.{EndsAreLater, StartsByRule, stays, starts}
use Rattle.wc_soundness.proofs.AtOne.{found_other}
use Rattle.wc_soundness.proofs.Calculations.{calls_nothing}
use Rattle.wc_soundness.proofs.Fuel.{KeepsFuel, sum_falls}
use Rattle.wc_soundness.proofs.Given.{KeepsSources, one_found, given_is_meant}
use Rattle.wc_soundness.proofs.Rule.{carried_to, defined_some, rule_is_stable}
use Rattle.wc_soundness.proofs.Stays.{AllStay}

-- what is created is fresh
pub fresh_part : (k : ProcessKind) (s : ProcessState) (p : Part) → s ≡ state.Created → part_fits k s p ≡ true → p ≡ part.Fresh
fresh_part k s part.Fresh is h = refl
fresh_part k s (part.Chain c) is h = absurd (let e : part_fits k state.Created (part.Chain c) ≡ true = ap (λ (x : ProcessState). part_fits k x (part.Chain c)) (sym is) ∙ h in cc e)
fresh_part k s (part.Job j) is h = absurd (let e : part_fits k state.Created (part.Job j) ≡ true = ap (λ (x : ProcessState). part_fits k x (part.Job j)) (sym is) ∙ h in cc e)
fresh_part k s part.Over is h = absurd (let e : part_fits k state.Created part.Over ≡ true = ap (λ (x : ProcessState). part_fits k x part.Over) (sym is) ∙ h in cc e)

-- what holds of one process and of each other one holds of all
pub with_own : (Q : ProcessRecord → Type 0) (rs : List ProcessRecord) (pid : ℕ) (e : ProcessRecord) → AreUnique rs → find_record pid rs ≡ Some e → Q e
    → All (λ x. x.node ≢ pid → Q x) rs → All Q rs
with_own Q rs pid e u h own others i d lt =
    elim (cases_eq (get_or rs i d).node pid) [
      | inl same ↦ all_found Q pid rs e u h own i d lt same
      | inr ne ↦ others i d lt ne
    ]

-- an end starts what was created, but for a kill
end_starts : (s : ProcessState) → has_ended s ≡ true → s ≢ state.Killed → (not (is_created s) && not (is_killed s)) ≡ true
end_starts state.Created over alive = absurd (cc)
end_starts state.Running over alive = absurd (cc)
end_starts state.Waiting over alive = absurd (cc)
end_starts (state.Finished n) over alive = refl
end_starts (state.Excepted r) over alive = refl
end_starts state.Killed over alive = absurd (alive refl)

pub takes_same : (v w : World) (x y : ProcessRecord) (o : Option Definition) → recorded_inputs w y.node ≡ recorded_inputs v x.node → TakesItsInputs v x o → TakesItsInputs w y o
takes_same v w x y None e h = h
takes_same v w x y (Some d) e h = ap (bad_input (head_of d).inputs) e ∙ h

-- A created calculation of a sound world that ends so: not by a kill, with the source that it takes, and with outputs that can be created.
pub record MayEnd (w : World) (r : ProcessRecord) (p : Parsed) (source : Option ℕ) : Type 0 where
  pub sound : IsSound w
  pub found : find_record r.node w.records ≡ Some r
  pub created : r.state ≡ state.Created
  pub calculates : is_calculation r.kind ≡ true
  pub over : has_ended p.state ≡ true
  pub alive : p.state ≢ state.Killed
  pub takes : TakesSource w r source
  pub numbered : source_of (number_of source) ≡ source
  pub good : AreInputs p.outputs

module _ (w : World) (r : ProcessRecord) (p : Parsed) (source : Option ℕ) (code : Option ℤ) (h : MayEnd w r p source) where
  -- the world after the end, and the record that it leaves
  abbrev pub after : World
  after = ended_world w r p source code

  abbrev pub own : ProcessRecord
  own = end_record w r p source code r

  live : has_ended r.state ≡ false
  live = ap has_ended h.created

  unstarted : r.started ≡ 0
  unstarted = (found_holds (IsFitting w) r.node w.records r h.sound.records h.found).started h.created

  pub touches : Touches w after r.node
  touches = subst (λ (v : World). Touches w v r.node) (applied_ends w r p source code) (ends_touch w r p source code h.found live unstarted)

  may : MayBeTouched w r.node
  may x there = ap (λ (y : ProcessRecord). has_ended y.state) (one_found (find_record r.node w.records) x r there h.found) ∙ live

  pub goes_on : Continues w after
  goes_on = touching_continues w after r.node h.sound touches may

  pub stay : AllStay w after
  stay = ended_stay w after r.node h.sound touches may

  pub found_own : find_record r.node after.records ≡ Some own
  found_own = found_end w r p source code h.found

  -- ---- its record

  starts_now : own.started ≡ w.batches + 1
  starts_now =
      ap (λ (x : ProcessState). if is_created x && (not (is_created p.state) && not (is_killed p.state)) then w.batches + 1 else r.started) h.created
      ∙ ap (λ (b : Bool). if b then w.batches + 1 else r.started) (end_starts p.state h.over h.alive)

  ends_now : own.ended ≡ w.batches + 1
  ends_now = ap (λ (b : Bool). if b then w.batches + 1 else r.ended) h.over

  carries_own : Carries r own
  carries_own =
      let c = touches.carried r h.found in
      subst (Carries r) (one_found (find_record r.node after.records) c.0 own c.1 found_own) c.2

  -- ---- the others

  other_before : (q : ProcessRecord) → find_record q.node after.records ≡ Some q → q.node ≢ r.node → find_record q.node w.records ≡ Some q
  other_before q there ne = sym (found_other r.node (end_record w r p source code) (λ x. refl) w.records q.node (λ e. ne (sym e))) ∙ there

  later : EndsAreLater w after
  later q there positive le =
      elim (cases_eq q.node r.node) [
        | inl same ↦
            let is : q ≡ own = one_found (find_record r.node after.records) q own (ap (λ (n : ℕ). find_record n after.records) (sym same) ∙ there) found_own in
            let now : q.ended ≡ w.batches + 1 = ap (λ (x : ProcessRecord). x.ended) is ∙ ends_now in
            absurd (omega arith)
        | inr ne ↦ other_before q there ne
      ]

  module _ (cv : IsConsistent after) where
    there_again : AreUnique after.records
    there_again = unique 1 after.nodes after.records cv.numbered

    own_and_others : (Q : ProcessRecord → Type 0) → Q own → All (λ x. x.node ≢ r.node → Q x) after.records → All Q after.records
    own_and_others Q q others = with_own Q after.records r.node own there_again found_own q others

    -- what was there before, and another process
    others_by : (Q : ProcessRecord → Type 0) → ((q : ProcessRecord) → find_record q.node w.records ≡ Some q → Q q) → All (λ x. x.node ≢ r.node → Q x) after.records
    others_by Q each i d lt ne = let q = get_or after.records i d in each q (other_before q (there_again i d lt) ne)

    pub rule_after : KeepsCacheRule after
    rule_after =
        rule_is_stable w after h.sound cv goes_on later
        (own_and_others (StartsByRule w)
        (starts r h.found carries_own starts_now (λ calculates. subst (TakesSource w r) (sym h.numbered) h.takes) (λ other. absurd (let is = h.calculates in cc (is, other))))
        (others_by (StartsByRule w) (λ q there. stays q there (carried_itself q) refl refl)))

    outputs_are : recorded_outputs after r.node ≡ p.outputs
    outputs_are = outputs_of_end w r p source code h.sound.consistent h.found live h.good

    keeps : KeepsSources after
    keeps = record { consistent = cv; libraries = h.sound.libraries; rule = rule_after }

    -- ---- its place, its calls and its fuel

    own_placed : IsPlaced after own
    own_placed =
        let new = creates (length w.nodes + 1) r.node p.outputs in
        let no_calls : NoCalls new = creates_no_call (length w.nodes + 1) r.node p.outputs in
        let place : IsPlaced w r = found_holds (IsPlaced w) r.node w.records r h.sound.placed h.found in
        record {
          root = λ one.
              let o = place.root one in
              let none = All-weaker (λ l. calls l.link ≡ false) (λ l. is_call_to r.node l ≡ false) (λ l e. ap (λ (b : Bool). b && (l.target == r.node)) e) new no_calls in
              (any_before (is_call_to r.node) w.links new none ∙ o.0, o.1);
          called = λ deeper.
              let c = place.called deeper in
              let s = carried_to w after h.sound.consistent goes_on c.0 c.1.0 in
              let called : has_called after.links c.0.node r.node ≡ true = called_grown w.links new c.0.node r.node c.1.1 in (
                s.0,
                (
                  ap (λ (n : ℕ). find_record n after.records) s.2.node ∙ s.1,
                  ap (λ (n : ℕ). has_called after.links n r.node) s.2.node ∙ called,
                  c.1.2 ∙ ap (λ (n : ℕ). suc n) (sym s.2.depth),
                  c.1.3 ∙ sym s.2.library,
                ),
              );
          numbered = subst (AreNumbered 1) (sym (filter_before (is_call_from r.node) w.links new (no_call_from r.node new no_calls))) place.numbered;
        }

    own_calls : CallsAreKept after own
    own_calls x there called =
        let quiet = calls_nothing after cv own found_own h.calculates in
        let none : has_called after.links r.node x.node ≡ false
        = list_any_none (λ l. is_call_from r.node l && (l.target == x.node)) after.links
        (λ i d lt. ap (λ (b : Bool). b && ((get_or after.links i d).target == x.node)) (quiet i d lt)) in
        absurd (cc (called, none))

    own_fuel : fuel_in after.records after.records ≤ after.batches + length after.nodes
    own_fuel =
        let u = unique 1 w.nodes w.records h.sound.consistent.numbered in
        let stands : Stands w r = found_holds (Stands w) r.node w.records r h.sound.consistent.records h.found in
        let fresh : r.part ≡ part.Fresh = fresh_part r.kind r.state r.part h.created stands.part in
        let keeps : KeepsFuel (end_record w r p source code) r
        = record { live = live; none = λ n. ap (λ (x : Part). is_awaited x n) fresh; still = λ n. refl; fuel = refl } in
        let less = sum_falls r.node (end_record w r p source code) w.records
        (all_found (KeepsFuel (end_record w r p source code)) r.node w.records r u h.found keeps) in
        let bound : fuel_in w.records w.records ≤ w.batches + length w.nodes = h.sound.fuel in
        let more : length (w.nodes ++ data_nodes p.outputs) ≡ length w.nodes + length (data_nodes p.outputs) = length-append w.nodes (data_nodes p.outputs) in
        omega arith

    -- ---- the others

    late : EndsLate w after r.node
    late q there which =
        elim (cases_eq q.node r.node) [
          | inl same ↦
              let is : q ≡ own = one_found (find_record r.node after.records) q own (ap (λ (n : ℕ). find_record n after.records) (sym same) ∙ there) found_own in
              let now : q.ended ≡ w.batches + 1 = ap (λ (x : ProcessRecord). x.ended) is ∙ ends_now in
              inr (omega arith)
          | inr ne ↦ absurd (not_new which ne)
        ]
      where
        not_new : (r.node ≡ q.node) ⊎ (length w.nodes < q.node) → q.node ≢ r.node → ⊥
        not_new (inl e) ne = ne (sym e)
        not_new (inr beyond) ne =
            let low : q.node < suc (length w.nodes)
            = found_holds (λ x. x.node < suc (length w.nodes)) q.node w.records q (records_below w.nodes w.records h.sound.consistent.numbered) (other_before q there ne) in
            let over : length w.nodes < q.node = beyond in
            absurd (omega arith)

    others_sound : All (λ x. x.node ≢ r.node → IsSoundRecord after x) after.records
    others_sound i d lt ne =
        let q = get_or after.records i d in
        others_stay_sound w after r.node h.sound touches may cv late q (other_before q (there_again i d lt) ne) (λ e. ne (sym e))

    module _ (given : GivenFor after r.node p) where
      own_fits : IsFitting after own
      own_fits =
          let over : has_ended own.state ≡ true = h.over in
          record {
            inputs =
                takes_same w after r own (its_definition w r) (inputs_kept w r p source code h.sound.consistent r.node)
                (found_holds (IsFitting w) r.node w.records r h.sound.records h.found).inputs;
            request = λ job. absurd (cc job);
            code = λ alive. absurd (cc (over, alive));
            source = λ alive. absurd (cc (over, alive));
            started = λ again. absurd (let alive : has_ended own.state ≡ false = ap has_ended again in cc (over, alive));
            awaiting = tt;
            outputs = tt;
          }

      own_meant : IsMeant after own
      own_meant =
          let d = defined_some (its_definition w r) r (found_holds (Stands w) r.node w.records r h.sound.consistent.records h.found).defined in
          given_is_meant after keeps own p d.0 found_own h.calculates h.alive d.1 given refl outputs_are

      own_sound : IsSoundRecord after own
      own_sound = record {
        fits = own_fits;
        placed = own_placed;
        calls = own_calls;
        awaits = tt;
        names = tt;
        rule = found_holds (KeepsRule after) r.node after.records own rule_after found_own;
        bare = λ calculates alive. live_without_output after own (found_holds (Stands after) r.node after.records own cv.records found_own) alive;
        given = λ calculates over. (p, given, refl, outputs_are);
        live = λ alive. absurd (let over : has_ended own.state ≡ true = h.over in cc (over, alive));
        ended = λ over. own_meant;
        few = λ over. found_holds KeepsFew r.node w.records r h.sound.few h.found;
      }

      -- The world after the end is sound, where this is given for the process.
      pub ended_sound : IsSound after
      ended_sound =
          sound_by_records after (record {
            consistent = cv;
            libraries = h.sound.libraries;
            upward = upward_after w r p source code h.sound.consistent h.found h.sound.upward;
            one_creator = λ i j l m a b is_l is_m same.
                elim (cases_eq i j) [ inl e ↦ e | inr ne ↦ absurd ((cv.links.apart i j l m ne a b).creators (is_l, is_m, same)) ];
            fuel = own_fuel;
          }) (own_and_others (IsSoundRecord after) own_sound others_sound)
