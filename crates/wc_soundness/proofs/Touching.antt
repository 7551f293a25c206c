-- A work chain that submits calls touches itself alone, and what it makes is new.
use Rattle.std.proofs.Common.{◌≡◌, inl, inr, ℕ, suc, ◌+◌, ◌<◌, Bool, true, false, List, [], ◌∷◌, Some, length, refl, sym, ap, subst, ◌∙◌, arith}
use Rattle.std.specs.Prelude.{◌≢◌, ◌==◌, ◌&&◌, not, if◌then◌else◌, All}
use Rattle.std.proofs.lemmas.Bool.{eqb-true}
use Rattle.std.proofs.lemmas.List.{append-nil}
use Rattle.wc_value.specs.declared.process.ProcessState.{ProcessState}
use Rattle.wc_value.specs.declared.process.ProcessState.TheVariants as state
use Rattle.wc_state.specs.declared.record.Checkpoint.{Checkpoint}
use Rattle.wc_state.specs.declared.record.ProcessRecord.{ProcessRecord}
use Rattle.wc_world.specs.Applied.{is_created, is_killed, started_in}
use Rattle.wc_world.specs.Consistent.{Stands}
use Rattle.wc_world.specs.Records.{find_record, has_ended}
use Rattle.wc_world.specs.World.{World}
use Rattle.wc_world.proofs.FoundRecords.{found_holds}
use Rattle.wc_machine.specs.Calls.{called_number, kind_of_callee}
use Rattle.wc_machine.specs.Continues.{Carries}
use Rattle.wc_machine.specs.Sound.{IsSound, IsFitting}
use Rattle.wc_machine.specs.Steps.{Call}
use Rattle.wc_machine.specs.Submissions.{input_link}
use Rattle.wc_soundness.specs.Touches.{AddsFor, EndsLate, MayBeTouched, Touches}
use Rattle.wc_soundness.specs.Submitted.{child_record, calls_links, calls_nodes, EachCall, first_free, now_waits, submitted}
use Rattle.wc_soundness.proofs.Links.{call_all, inputs_all, input_takes, its_link_calls, links_all}
use Rattle.wc_soundness.proofs.Records.{found_new, found_now, found_other}

started_stays : (batch : ℕ) (r : ProcessRecord) (s : ProcessState) → r.state ≡ s → has_ended s ≡ false → (r.state ≡ state.Created → r.started ≡ 0) → r.started ≢ 0
    → started_in batch r state.Waiting ≡ r.started
started_stays batch r state.Created is live none ne = absurd (ne (none is))
started_stays batch r state.Running is live none ne = ap (λ (x : ProcessState). if is_created x && (not (is_created state.Waiting) && not (is_killed state.Waiting)) then batch else r.started) is
started_stays batch r state.Waiting is live none ne = ap (λ (x : ProcessState). if is_created x && (not (is_created state.Waiting) && not (is_killed state.Waiting)) then batch else r.started) is
started_stays batch r (state.Finished n) is live none ne = absurd (cc)
started_stays batch r (state.Excepted q) is live none ne = absurd (cc)
started_stays batch r state.Killed is live none ne = absurd (cc)

-- a process that hasn't ended ended in no batch
not_ended : (b : Bool) (x : Bool) (n : ℕ) → b ≡ false → (if b then x else (n == 0)) ≡ true → n ≡ 0
not_ended true x n e h = absurd (cc)
not_ended false x n e h = eqb-true n 0 h

module _ (w : World) (r : ProcessRecord) (sound : IsSound w) (found : find_record r.node w.records ≡ Some r) (live : has_ended r.state ≡ false) (d : Checkpoint) (calls : List Call) where
  abbrev v : World
  v = submitted w r d calls

  its_fit : IsFitting w r
  its_fit = found_holds (IsFitting w) r.node w.records r sound.records found

  its_stand : Stands w r
  its_stand = found_holds (Stands w) r.node w.records r sound.consistent.records found

  carries : Carries r (now_waits w r d calls)
  carries = record {
    node = refl;
    kind = refl;
    definition = refl;
    library = refl;
    depth = refl;
    label = refl;
    caching = refl;
    started = λ ne. (started_stays (w.batches + 1) r r.state refl live its_fit.started ne, sym (its_fit.source live));
    ended = λ over. absurd (let e : true ≡ false = sym over ∙ live in cc);
  }

  itself : (q : ProcessRecord) → find_record r.node w.records ≡ Some q → r ≡ q
  itself q h = let e : Some r ≡ Some q = sym found ∙ h in cc

  added : All (AddsFor w.nodes r.node) (calls_links w r (first_free w r) calls)
  added =
      links_all w r (AddsFor w.nodes r.node) (first_free w r) (first_free w r) calls (omega arith) (λ n c le.
      let lt : length w.nodes < called_number w r n c = omega arith in
      call_all w r (AddsFor w.nodes r.node) n c
      (inputs_all (AddsFor w.nodes r.node) (input_link (kind_of_callee w r c)) n (called_number w r n c) c.args (λ source port. inr (inr (inl (input_takes (kind_of_callee w r c), lt)))))
      (inr (inl (its_link_calls w r n c, lt))))

  pub calls_touch : Touches w v r.node
  calls_touch = record {
    libraries = ([], sym (append-nil w.libraries));
    nodes = (calls_nodes w r calls, refl);
    new = calls_links w r (first_free w r) calls;
    links = refl;
    added = added;
    records = λ q ne le. found_other w r sound.consistent found d calls q ne le;
    carried = λ q h.
        (now_waits w r d calls, found_now w r sound.consistent found d calls, subst (λ (x : ProcessRecord). Carries x (now_waits w r d calls)) (itself q h) carries);
    batches = omega arith;
  }

  pub may_call : MayBeTouched w r.node
  may_call q h = subst (λ (x : ProcessRecord). has_ended x.state ≡ false) (itself q h) live

  -- what is new, and the chain, hasn't ended
  pub calls_end_late : EndsLate w v r.node
  calls_end_late q there (inl same) =
      let now : Some (now_waits w r d calls) ≡ Some q
      = sym (found_now w r sound.consistent found d calls) ∙ ap (λ (n : ℕ). find_record n v.records) same ∙ there in
      let is : now_waits w r d calls ≡ q = cc in
      inl (ap (λ (x : ProcessRecord). x.ended) (sym is) ∙ not_ended (has_ended r.state) _ r.ended live its_stand.ends)
  calls_end_late q there (inr beyond) =
      inl (found_new w r sound.consistent found d calls (λ s. s.ended ≡ 0) (each_none (first_free w r) calls) q there beyond)
    where
      each_none : (next : ℕ) (cs : List Call) → EachCall w r (λ n c. (child_record w r n c).ended ≡ 0) next cs
      each_none next [] = tt
      each_none next (c ∷ cs) = (refl, each_none (suc (called_number w r next c)) cs)
