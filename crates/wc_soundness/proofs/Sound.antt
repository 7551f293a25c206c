-- Where the record of one process is set anew as it should be, a sound world stays sound.
use Rattle.std.proofs.Common.{◌≡◌, ◌≢◌, ℕ, suc, ◌+◌, ◌≤◌, Bool, true, false, Some, get_or, length, refl, sym, ap, ◌∙◌, arith}
use Rattle.std.specs.Prelude.{All, ◌==◌, ◌&&◌, nat_lt, nat_le, if◌then◌else◌}
use Rattle.std.proofs.lemmas.Bool.{and_from, lt-ltb, le-leb, eq-eqb}
use Rattle.wc_value.specs.declared.process.ProcessState.{ProcessState}
use Rattle.wc_state.specs.declared.record.Part.{Part}
use Rattle.wc_state.specs.declared.record.Part.TheVariants as part
use Rattle.wc_state.specs.declared.record.ProcessRecord.{ProcessRecord}
use Rattle.wc_world.specs.declared.change.Change.TheVariants as change
use Rattle.wc_world.specs.World.{World}
use Rattle.wc_world.specs.Fits.{standing_fits, has_output}
use Rattle.wc_world.specs.Consistent.{Stands, IsConsistent}
use Rattle.wc_world.specs.Records.{find_record, has_ended, is_calculation}
use Rattle.wc_world.proofs.FoundRecords.{found_holds}
use Rattle.wc_world.proofs.ReachedGrown.{Grows, grows, calls_grow, kind_grows, standing_grows}
use Rattle.wc_world.proofs.ReachedLists.{AreUnique, unique, all_at_apart, all_found, process_at_one}
use Rattle.wc_world.proofs.ReachedSources.{KeepsSources, source_kept, source_told, source_from}
use Rattle.wc_machine.specs.Created.{IsGiven}
use Rattle.wc_machine.specs.Rest.{IsOnTrack}
use Rattle.wc_machine.specs.Sound.{IsFitting, IsPlaced, CallsAreKept, AwaitsLastCalls, NamesKnown, IsMeant, IsSound, KeepsFew, fuel_in}
use Rattle.wc_machine.specs.Sources.{KeepsRule}
use Rattle.wc_machine.proofs.AcceptedEnds.{live_without_output}
use Rattle.wc_soundness.specs.Replaced.{set_to, IsSet, SetsWell, SetsKeepSound}
use Rattle.wc_soundness.proofs.Others.{live_counted}
use Rattle.wc_soundness.proofs.Replaced.{one_record, after, now, setting, found_now, found_other, stays}
use Rattle.wc_soundness.proofs.OtherRecords.{live_unended, is_given_stays, rule_stays, rule_now, takes_stays, takes_now, caller_stays, calls_stay, awaits_stay, names_stay}
use Rattle.wc_soundness.proofs.OthersOnTrack.{other_on_track}

module _ (w : World) (batch : ℕ) (r : ProcessRecord) (s : ProcessState) (fuel : ℕ) (p : Part) (i : IsSet w batch r s) (sound : IsSound w) (well : SetsWell w batch r s fuel p) where
  abbrev v : World
  v = after w batch r s fuel p

  abbrev new : ProcessRecord
  new = now w batch r s fuel p

  -- the world before, as it is told in that batch
  abbrev told : World
  told = record { nodes = w.nodes; links = w.links; records = w.records; libraries = w.libraries; batches = batch }

  grown : Grows told v
  grown = grows batch told (change.Set (set_to r s fuel p))

  there : AreUnique w.records
  there = unique 1 w.nodes w.records sound.consistent.numbered

  stands_before : Stands w r
  stands_before = found_holds (Stands w) r.node w.records r sound.consistent.records i.found

  -- ---- the lists fit each other

  unended : r.ended ≡ 0
  unended = live_unended r stands_before.ends i.live

  keeps : KeepsSources (λ q. q.ended) w.records v.records
  keeps n q h lt =
      let ne : r.node ≢ n = λ e.
      let same : r ≡ q = one_record (find_record n w.records) r q (ap (λ (m : ℕ). find_record m w.records) (sym e) ∙ i.found) h in
      let none : q.ended ≡ 0 = ap (λ (x : ProcessRecord). x.ended) (sym same) ∙ unended in
      absurd (omega arith) in
      (q, found_other w batch r s fuel p n ne ∙ h, refl, refl)

  other_stands : (q : ProcessRecord) → Stands w q → Stands v q
  other_stands q h = record {
    defined = kind_grows told v grown q.kind q.library q.definition h.defined;
    not_below = h.not_below;
    not_above = h.not_above;
    part = h.part;
    fails = h.fails;
    standing = standing_grows told v grown q h.defined q.part (standing_told q q.part h.standing);
    source = source_from v.records q q.cached_from (source_kept (λ x. x.ended) w.records v.records q.started q.cached_from keeps (source_told w.records q q.cached_from h.source));
    started = let a = h.started in let b = i.later in omega arith;
    ended = let a = h.ended in let b = i.later in omega arith;
    ends = h.ends;
    settled = h.settled;
  }
    where
      standing_told : (q : ProcessRecord) (x : Part) → standing_fits w q x ≡ true → standing_fits told q x ≡ true
      standing_told q part.Fresh h = h
      standing_told q (part.Chain c) h = h
      standing_told q (part.Job j) h = h
      standing_told q part.Over h = h

  standing_now : (x : Part) → standing_fits w r x ≡ true → standing_fits v new x ≡ true
  standing_now part.Fresh h = h
  standing_now (part.Chain c) h = standing_grows told v grown r stands_before.defined (part.Chain c) h
  standing_now (part.Job j) h = h
  standing_now part.Over h = h

  new_stands : Stands v new
  new_stands = record {
    defined = kind_grows told v grown r.kind r.library r.definition stands_before.defined;
    not_below = stands_before.not_below;
    not_above = stands_before.not_above;
    part = well.part;
    fails = well.fails;
    standing = standing_now p well.standing;
    source = refl;
    started = start;
    ended = at (has_ended s);
    ends = ends_at (has_ended s);
    settled = well.settled;
  }
    where
      start : new.started ≤ batch
      start = let a = stands_before.started in let b = i.later in let e = i.start in omega arith

      at : (b : Bool) → (if b then batch else r.ended) ≤ batch
      at true = omega arith
      at false = let z = unended in omega arith

      ends_at : (b : Bool) → (if b then nat_lt 0 (if b then batch else r.ended) && nat_le new.started (if b then batch else r.ended) else ((if b then batch else r.ended) == 0)) ≡ true
      ends_at true = and_from (nat_lt 0 batch) (nat_le new.started batch) (lt-ltb 0 batch i.first) (le-leb new.started batch start)
      ends_at false = eq-eqb r.ended 0 unended

  -- a property of the record that was set, and of the others, holds of all
  every : (Q : ProcessRecord → Type 0) → Q new → ((q : ProcessRecord) → find_record q.node w.records ≡ Some q → r.node ≢ q.node → Q q) → All Q v.records
  every Q one other =
      all_at_apart Q r.node (setting w batch r s fuel p) w.records
      (λ k d lt ne. other (get_or w.records k d) (there k d lt) (λ e. ne (sym e)))
      (all_found (λ x. Q (setting w batch r s fuel p x)) r.node w.records r there i.found one)

  holds : (P : ProcessRecord → Type 0) → All P w.records → (q : ProcessRecord) → find_record q.node w.records ≡ Some q → P q
  holds P all q found = found_holds P q.node w.records q all found

  consistent : IsConsistent v
  consistent = record {
    few = sound.consistent.few;
    batches = i.few;
    shallow = sound.consistent.shallow;
    names = sound.consistent.names;
    numbered = process_at_one r.node (setting w batch r s fuel p) (λ x. refl) w.records ∙ sound.consistent.numbered;
    links = sound.consistent.links;
    calls = calls_grow told v grown w.links sound.consistent.calls;
    records = every (Stands v) new_stands (λ q found ne. other_stands q (holds (Stands w) sound.consistent.records q found));
  }

  -- ---- each part of a sound world

  fitting_now : IsFitting w r → IsFitting v new
  fitting_now h = record {
    inputs = takes_now w batch r s fuel p i sound _ h.inputs;
    request = λ job. let none = well.no_job in absurd (cc (job, none));
    code = λ live. refl;
    source = λ live. refl;
    started = λ created. absurd (i.begun created);
    awaiting = well.awaiting;
    outputs = well.outputs;
  }

  fitting_other : (q : ProcessRecord) → IsFitting w q → IsFitting v q
  fitting_other q h = record {
    inputs = takes_stays w batch r s fuel p i sound q _ h.inputs;
    request = h.request;
    code = h.code;
    source = h.source;
    started = h.started;
    awaiting = h.awaiting;
    outputs = h.outputs;
  }

  placed_now : IsPlaced w r → IsPlaced v new
  placed_now h = record {
    root = h.root;
    called = λ deeper. let c = h.called deeper in caller_stays w batch r s fuel p i sound r c.0 c.1;
    numbered = h.numbered;
  }

  placed_other : (q : ProcessRecord) → IsPlaced w q → IsPlaced v q
  placed_other q h = record {
    root = h.root;
    called = λ deeper. let c = h.called deeper in caller_stays w batch r s fuel p i sound q c.0 c.1;
    numbered = h.numbered;
  }

  -- where it lives on, its fuel is counted
  new_few : (b : Bool) → has_ended s ≡ b → KeepsFew new
  new_few true over = well.few over
  new_few false lives =
      let counted : suc new.fuel ≤ fuel_in v.records v.records
      = found_holds (λ x. has_ended x.state ≡ false → suc x.fuel ≤ fuel_in v.records v.records) r.node v.records new (live_counted v.records v.records)
      (found_now w batch r s fuel p i.found) lives in
      let bound : fuel_in v.records v.records ≤ batch + length w.nodes = well.kept in
      let most : batch ≤ 4000000000 = i.few in
      let nodes : length w.nodes ≤ 8000000 = sound.consistent.few in
      omega arith

  pub sound_set : IsSound v
  sound_set = record {
    consistent = consistent;
    libraries = sound.libraries;
    links = sound.links;
    acyclic = sound.acyclic;
    upward = sound.upward;
    created = record {
      one_creator = sound.created.one_creator;
      live = every (λ q. is_calculation q.kind ≡ true → has_ended q.state ≡ false → has_output q.node v.links ≡ false)
          (λ calculates live. live_without_output w r stands_before i.live)
          (λ q found ne. holds (λ q. is_calculation q.kind ≡ true → has_ended q.state ≡ false → has_output q.node w.links ≡ false) sound.created.live q found);
      ended = every (λ q. is_calculation q.kind ≡ true → has_ended q.state ≡ true → IsGiven v q) well.given
          (λ q found ne calculates over. is_given_stays w batch r s fuel p i sound q found over
          (holds (λ q. is_calculation q.kind ≡ true → has_ended q.state ≡ true → IsGiven w q) sound.created.ended q found calculates over));
    };
    sources = every (KeepsRule v) (rule_now w batch r s fuel p i sound (holds (KeepsRule w) sound.sources r i.found))
        (λ q found ne. rule_stays w batch r s fuel p i sound q (holds (KeepsRule w) sound.sources q found));
    records = every (IsFitting v) (fitting_now (holds (IsFitting w) sound.records r i.found)) (λ q found ne. fitting_other q (holds (IsFitting w) sound.records q found));
    placed = every (IsPlaced v) (placed_now (holds (IsPlaced w) sound.placed r i.found)) (λ q found ne. placed_other q (holds (IsPlaced w) sound.placed q found));
    calls = every (CallsAreKept v) well.calls (λ q found ne. calls_stay w batch r s fuel p i sound q (holds (CallsAreKept w) sound.calls q found));
    awaits = every (λ q. AwaitsLastCalls v q q.part) well.awaits
        (λ q found ne. awaits_stay w batch r s fuel p i sound q q.part (holds (λ q. AwaitsLastCalls w q q.part) sound.awaits q found));
    names = every (λ q. NamesKnown v q q.part) well.names
        (λ q found ne. names_stay w batch r s fuel p i sound q q.part (holds (λ q. NamesKnown w q q.part) sound.names q found));
    live = every (λ q. has_ended q.state ≡ false → IsOnTrack v q) well.live
        (λ q found ne live. other_on_track w batch r s fuel p i sound q found ne (holds (Stands w) sound.consistent.records q found).part
        (holds (λ q. has_ended q.state ≡ false → IsOnTrack w q) sound.live q found live));
    ended = every (λ q. has_ended q.state ≡ true → IsMeant v q) well.meant (λ q found ne over. (stays w batch r s fuel p i sound q found over).meant);
    fuel = well.kept;
    few = every KeepsFew (new_few (has_ended s) refl) (λ q found ne. holds KeepsFew sound.few q found);
  }

pub sets_keep_sound : SetsKeepSound
sets_keep_sound w batch r s fuel p sound i well = sound_set w batch r s fuel p i sound well
