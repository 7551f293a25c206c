-- A calculation that lives and ends, with what is given for it and what it means, keeps a world sound.
use Rattle.std.proofs.Common.{◌≡◌, ◌≢◌, ◌⊎◌, ℕ, ℤ, suc, ◌+◌, ◌<◌, ◌≤◌, Bool, true, false, Option, Some, None, List, [], ◌∷◌, ◌++◌, get_or, length, inl, inr, refl, sym, ap, subst, ◌∙◌, arith}
use Rattle.std.specs.Prelude.{◌==◌, ◌&&◌, not, if◌then◌else◌, option_and_then, option_map, slice_get}
use Rattle.std.proofs.lemmas.Bool.{cases_eq, eqb-true}
use Rattle.std.proofs.lemmas.List.{length-append}
use Rattle.std.proofs.lemmas.List.Elements.{All-append, All-cons, All-nil}
use Rattle.wc_value.specs.declared.process.ProcessState.{ProcessState}
use Rattle.wc_value.specs.declared.process.ProcessState.TheVariants as state
use Rattle.wc_value.specs.declared.process.Tree.{roll-Tree}
use Rattle.wc_graph.specs.declared.link.Link.{Link}
use Rattle.wc_graph.specs.declared.link.LinkType.TheVariants.{Create}
use Rattle.wc_semantics.specs.declared.outcomes.Parsed.{Parsed}
use Rattle.wc_syntax.specs.declared.definition.Definition.{Definition}
use Rattle.wc_semantics.specs.Meaning.{is_killed, leaf}
use Rattle.wc_state.specs.declared.record.Part.{Part}
use Rattle.wc_state.specs.declared.record.Part.TheVariants as part
use Rattle.wc_state.specs.declared.record.ProcessKind.{ProcessKind}
use Rattle.wc_state.specs.declared.record.ProcessKind.TheVariants as kind
use Rattle.wc_state.specs.declared.record.ProcessRecord.{ProcessRecord}
use Rattle.wc_world.specs.World.{World}
use Rattle.wc_world.specs.Accepted.{IsAccepted}
use Rattle.wc_world.specs.Applied.{applied, is_created, is_killed as kills_it}
use Rattle.wc_world.specs.Consistent.{IsConsistent, Stands}
use Rattle.wc_world.specs.Fits.{calls_from, has_output, part_fits, counted_calls}
use Rattle.wc_world.specs.Records.{find_record, has_ended, is_calculation, is_call_from}
use Rattle.wc_world.specs.Trees.{branches, context_of, recorded_tree, tree_with, tree_within}
use Rattle.wc_world.proofs.FoundRecords.{found_holds}
use Rattle.wc_world.proofs.ReachedLists.{all_at, all_found, unique}
use Rattle.wc_world.proofs.ReachedWorlds.{accepted_is_consistent}
use Rattle.wc_machine.specs.Agreement.{Agrees}
use Rattle.wc_machine.specs.Continues.{Continues}
use Rattle.wc_machine.specs.Created.{GivenFor, IsGiven}
use Rattle.wc_machine.specs.Ends.{ends}
use Rattle.wc_machine.specs.Laws.{HasPlaces}
use Rattle.wc_machine.specs.Paths.{cut_after, kills}
use Rattle.wc_machine.specs.Recorded.{its_definition, recorded_outputs}
use Rattle.wc_machine.specs.Rest.{is_awaited}
use Rattle.wc_machine.specs.Sound.{CallsAreKept, IsFitting, IsMeant, IsPlaced, IsSound, KeepsFew, TakesItsInputs, fuel_in}
use Rattle.wc_machine.specs.Sources.{HaveEqualKeys, IsLowestSource, KeepsRule}
use Rattle.wc_machine.proofs.CreatedOutputs.{creates_no_call}
use Rattle.wc_machine.proofs.Endings.{applied_ends, creates, data_nodes, end_record, ended_world}
use Rattle.wc_machine.proofs.EndedWorlds.{found_end, outputs_of_end, upward_after}
use Rattle.wc_machine.proofs.Frames.{NoCallFrom, branches_before, no_call_from, records_below}
use Rattle.wc_soundness.specs.Touches.{EndsLate, IsSoundRecord, MayBeTouched, Touches}
use Rattle.wc_soundness.proofs.LeftAlone.{calls_kept, placed_kept, fitting_kept}
use Rattle.wc_soundness.proofs.Others.{lowest_kept, touched_worlds_are_sound}
use Rattle.wc_soundness.proofs.Touched.{meant_kept, touching_continues}
use Rattle.wc_soundness.specs.JobLaws.{EndsAreSafe}
use Rattle.wc_soundness.specs.Sets.{EndsRightly, is_bare}
use Rattle.wc_soundness.proofs.EndedFuel.{IsOverLike, fuel_falls}
use Rattle.wc_soundness.proofs.JobEnds.{end_accepted, live_end_touches, new_creates}
use Rattle.wc_soundness.proofs.Moves.{live_count, same_record}
use Rattle.wc_soundness.proofs.SoundMoves.{created_is}

-- ---- the process that ends

bare_by : (k : ProcessKind) (s : ProcessState) (x : Part) → part_fits k s x ≡ true → is_calculation k ≡ true → has_ended s ≡ false → is_bare x ≡ true
bare_by k state.Created part.Fresh fits calculates live = refl
bare_by k state.Created (part.Chain c) fits calculates live = absurd (cc)
bare_by k state.Created (part.Job j) fits calculates live = absurd (cc)
bare_by k state.Created part.Over fits calculates live = absurd (cc)
bare_by kind.Function state.Running x fits calculates live = absurd (cc)
bare_by kind.Job state.Running x fits calculates live = absurd (cc)
bare_by kind.Chain s x fits calculates live = absurd (cc)
bare_by kind.Function state.Waiting x fits calculates live = absurd (cc)
bare_by kind.Job state.Waiting part.Fresh fits calculates live = absurd (cc)
bare_by kind.Job state.Waiting (part.Chain c) fits calculates live = absurd (cc)
bare_by kind.Job state.Waiting (part.Job j) fits calculates live = refl
bare_by kind.Job state.Waiting part.Over fits calculates live = absurd (cc)
bare_by k (state.Finished n) x fits calculates live = absurd (cc)
bare_by k (state.Excepted reason) x fits calculates live = absurd (cc)
bare_by k state.Killed x fits calculates live = absurd (cc)

bare_awaits_none : (x : Part) (pid : ℕ) → is_bare x ≡ true → is_awaited x pid ≡ false
bare_awaits_none part.Fresh pid h = refl
bare_awaits_none (part.Chain c) pid h = absurd (cc)
bare_awaits_none (part.Job j) pid h = refl
bare_awaits_none part.Over pid h = absurd (cc)

bare_context_none : (x : Part) → is_bare x ≡ true → context_of part.Over ≡ context_of x
bare_context_none part.Fresh h = refl
bare_context_none (part.Chain c) h = absurd (cc)
bare_context_none (part.Job j) h = refl
bare_context_none part.Over h = absurd (cc)

ended_started : (s : ProcessState) → has_ended s ≡ true → s ≢ state.Killed → (not (is_created s) && not (kills_it s)) ≡ true
ended_started state.Created over alive = absurd (cc)
ended_started state.Running over alive = absurd (cc)
ended_started state.Waiting over alive = absurd (cc)
ended_started (state.Finished n) over alive = refl
ended_started (state.Excepted reason) over alive = refl
ended_started state.Killed over alive = absurd (alive refl)

bare_counted : (x : Part) → is_bare x ≡ true → counted_calls x ≡ 0
bare_counted part.Fresh h = refl
bare_counted (part.Chain c) h = absurd (cc)
bare_counted (part.Job j) h = refl
bare_counted part.Over h = absurd (cc)

-- a process with no call has no call link
none_from : (pid : ℕ) (ls : List Link) → calls_from pid ls ≡ 0 → NoCallFrom pid ls
none_from pid [] h = All-nil (λ l. is_call_from pid l ≡ false)
none_from pid (l ∷ ls) h = at (is_call_from pid l) refl h (λ e. none_from pid ls e)
  where
    at : (b : Bool) → is_call_from pid l ≡ b → (if b then suc (calls_from pid ls) else calls_from pid ls) ≡ 0 → (calls_from pid ls ≡ 0 → NoCallFrom pid ls)
        → NoCallFrom pid (l ∷ ls)
    at true is e more = absurd (cc)
    at false is e more = All-cons (λ x. is_call_from pid x ≡ false) l ls is (more e)

not_cut : (s : ProcessState) → s ≢ state.Killed → is_killed s ≡ false
not_cut state.Created h = refl
not_cut state.Running h = refl
not_cut state.Waiting h = refl
not_cut (state.Finished n) h = refl
not_cut (state.Excepted reason) h = refl
not_cut state.Killed h = absurd (h refl)

module _ (w : World) (r : ProcessRecord) (p : Parsed) (code : Option ℤ) (sound : IsSound w) (found : find_record r.node w.records ≡ Some r)
    (calculates : is_calculation r.kind ≡ true) (live : has_ended r.state ≡ false) (right : EndsRightly w r p code) where
  abbrev v : World
  v = ended_world w r p None code

  abbrev y : ProcessRecord
  y = end_record w r p None code r

  abbrev fitting : IsFitting w r
  fitting = found_holds (IsFitting w) r.node w.records r sound.records found

  bare : is_bare r.part ≡ true
  bare = bare_by r.kind r.state r.part (found_holds (Stands w) r.node w.records r sound.consistent.records found).part calculates live

  abbrev touched : Touches w v r.node
  touched = live_end_touches w r p code fitting found live

  may : MayBeTouched w r.node
  may q h = let same : r ≡ q = same_record w r q found h in ap (λ (x : ProcessRecord). has_ended x.state) (sym same) ∙ live

  there : find_record r.node v.records ≡ Some y
  there = found_end w r p None code found

  again : (q : ProcessRecord) × (find_record r.node v.records ≡ Some q) × (context_of q.part ≡ context_of r.part)
  again = (y, there, bare_context_none r.part bare)

  quiet : NoCallFrom r.node touched.new
  quiet =
      subst (NoCallFrom r.node) (sym (new_creates w r p code fitting found live))
      (no_call_from r.node (creates (length w.nodes + 1) r.node p.outputs) (creates_no_call (length w.nodes + 1) r.node p.outputs))

  takes_by : (o : Option Definition) → TakesItsInputs v r o → TakesItsInputs v y o
  takes_by None h = h
  takes_by (Some d) h = h

  fits : IsFitting v y
  fits = record {
    inputs = takes_by (its_definition v r) (fitting_kept w v r.node sound touched may r found quiet again fitting).inputs;
    request = λ e. absurd (cc e);
    code = λ e. let over = right.over in absurd (cc (over, e));
    source = λ e. refl;
    started = λ e. let over = right.over in let lives : has_ended p.state ≡ false = ap has_ended e in absurd (cc (over, lives));
    awaiting = tt;
    outputs = tt;
  }

  placed : IsPlaced v y
  placed =
      let h : IsPlaced v r = placed_kept w v r.node sound touched may r found quiet again (found_holds (IsPlaced w) r.node w.records r sound.placed found) in
      record { root = h.root; called = h.called; numbered = h.numbered }

  calls : CallsAreKept v y
  calls q is called =
      elim (calls_kept w v r.node sound touched may r found quiet again (found_holds (CallsAreKept w) r.node w.records r sound.calls found) q is called) [
        | inl over ↦ inl over
        | inr lives ↦ let none = bare_awaits_none r.part q.node bare in absurd (cc (none, lives.1))
      ]

  -- ---- its source

  ended_then : y.ended ≡ w.batches + 1
  ended_then = ap (λ (b : Bool). if b then w.batches + 1 else r.ended) right.over

  new_ends : IsConsistent v → (q : ProcessRecord) → find_record q.node v.records ≡ Some q → (r.node ≡ q.node) ⊎ (length w.nodes < q.node) → w.batches < q.ended
  new_ends c q is (inl e) =
      let also : Some y ≡ Some q = sym there ∙ ap (λ (n : ℕ). find_record n v.records) e ∙ is in
      let same : y ≡ q = cc in
      let number : q.ended ≡ w.batches + 1 = ap (λ (x : ProcessRecord). x.ended) (sym same) ∙ ended_then in
      omega arith
  new_ends c q is (inr beyond) =
      let below = records_below w.nodes w.records sound.consistent.numbered in
      let lt : q.node < suc (length w.nodes) = found_holds (λ x. x.node < suc (length w.nodes)) q.node v.records q
      (all_at (λ x. x.node < suc (length w.nodes)) (λ x. x.node < suc (length w.nodes)) r.node (end_record w r p None code) w.records (λ x h. h) below (λ i d lt e. below i d lt)) is in
      absurd (omega arith)

  keys_by : (q : ProcessRecord) → HaveEqualKeys v y q → HaveEqualKeys v r q
  keys_by q x = record { one = x.one; other = x.other; is_one = x.is_one; is_other = x.is_other; texts = x.texts; inputs = x.inputs }

  lowest : IsConsistent v → (b : ℕ) → b ≤ w.batches + 1 → IsLowestSource w b r None → IsLowestSource v b y None
  lowest c b le h =
      let kept : IsLowestSource v b r None
      = lowest_kept w v r.node sound touched may (unique 1 v.nodes v.records c.numbered) r found b
      (λ q is new lt early. let after : w.batches < q.ended = new_ends c q is new in absurd (omega arith)) None h in
      λ i d lt x. kept i d lt (x.0, keys_by (get_or v.records i d) x.1)

  starts_by : IsConsistent v → (old new : Bool) → is_created r.state ≡ old → (not (is_created p.state) && not (kills_it p.state)) ≡ new
      → r.caching ≡ true → (if old && new then w.batches + 1 else r.started) ≢ 0
      → IsLowestSource v (if old && new then w.batches + 1 else r.started) y None
  starts_by c true true is_old is_new on ne = lowest c (w.batches + 1) (omega arith) (right.starts (created_is r.state is_old) on)
  starts_by c true false is_old is_new on ne = let starts = ended_started p.state right.over right.alive in absurd (cc (starts, is_new))
  starts_by c false new is_old is_new on ne =
      let k : KeepsRule w r = found_holds (KeepsRule w) r.node w.records r sound.sources found in
      let stands : Stands w r = found_holds (Stands w) r.node w.records r sound.consistent.records found in
      let le : r.started ≤ w.batches = stands.started in
      lowest c r.started (omega arith) (subst (IsLowestSource w r.started r) (fitting.source live) (k.0 calculates on ne))

  rule : IsConsistent v → KeepsRule v y
  rule c = (
    λ is on ne. starts_by c (is_created r.state) (not (is_created p.state) && not (kills_it p.state)) refl refl on ne,
    λ e. refl,
    λ e. refl,
    λ e. refl,
  )

  -- ---- its tree

  outputs_are : recorded_outputs v r.node ≡ p.outputs
  outputs_are = outputs_of_end w r p None code sound.consistent found live right.outputs

  given : IsGiven v y
  given = (p, subst (λ (u : World). GivenFor u r.node p) (applied_ends w r p None code) right.given, refl, outputs_are)

  no_calls : NoCallFrom r.node v.links
  no_calls =
      let stands : Stands w r = found_holds (Stands w) r.node w.records r sound.consistent.records found in
      let counted : (calls_from r.node w.links == counted_calls r.part) ≡ true
      = live_count (has_ended r.state) (calls_from r.node w.links) (counted_calls r.part) (has_output r.node w.links) stands.settled live in
      let none : calls_from r.node w.links ≡ 0 = eqb-true (calls_from r.node w.links) (counted_calls r.part) counted ∙ bare_counted r.part bare in
      All-append (λ l. is_call_from r.node l ≡ false) w.links (creates (length w.nodes + 1) r.node p.outputs) (none_from r.node w.links none)
      (no_call_from r.node (creates (length w.nodes + 1) r.node p.outputs) (creates_no_call (length w.nodes + 1) r.node p.outputs))

  recorded : recorded_tree v r.node ≡ Some (tree_with y (recorded_outputs v r.node) [])
  recorded =
      ap (option_and_then (λ x. option_map (tree_with x (recorded_outputs v r.node)) (branches (tree_within 15 v) r.node v.links))) there
      ∙ ap (option_map (tree_with y (recorded_outputs v r.node))) (branches_before (tree_within 15 v) r.node [] v.links no_calls)

  uncut : kills v r.node [] ≡ None
  uncut =
      ap (option_and_then (cut_after v)) there
      ∙ ap (λ (b : Bool). if b then Some (calls_from r.node v.links) else None) (not_cut p.state right.alive)

  is_meant : IsMeant v y
  is_meant table agrees =
      let m = right.means table (kills v r.node) (subst (λ (u : World). Agrees table u r.node) (sym (applied_ends w r p None code)) agrees) uncut in (
        tree_with y (recorded_outputs v r.node) [],
        recorded,
        (
          leaf r.definition p m.0,
          m.1,
          meant_kept w v r.node sound touched may r found table (kills v r.node) r.fuel ∙ m.2,
          (λ i. roll-Tree (record { definition = r.definition; state = p.state; outputs = sym outputs_are i; calls = [] })),
        ),
      )

  -- ---- all of it

  sound_record : IsConsistent v → IsSoundRecord v y
  sound_record c = record {
    fits = fits;
    placed = placed;
    calls = calls;
    awaits = tt;
    names = tt;
    rule = rule c;
    bare = λ is e. let over = right.over in absurd (cc (over, e));
    given = λ is e. given;
    live = λ e. let over = right.over in absurd (cc (over, e));
    ended = λ e. is_meant;
    few = λ e. found_holds KeepsFew r.node w.records r sound.few found;
  }

  like : IsOverLike r y
  like = record { node = refl; fuel = refl; over = right.over; awaits = λ pid. sym (bare_awaits_none r.part pid bare) }

  fuel_stays : fuel_in v.records v.records ≤ v.batches + length v.nodes
  fuel_stays =
      let u = unique 1 w.nodes w.records sound.consistent.numbered in
      let less : fuel_in v.records v.records ≤ fuel_in w.records w.records
      = fuel_falls r.node (end_record w r p None code) w.records
      (all_found (λ x. IsOverLike x (end_record w r p None code x)) r.node w.records r u found like) in
      let le : fuel_in w.records w.records ≤ w.batches + length w.nodes = sound.fuel in
      let more : length (w.nodes ++ data_nodes p.outputs) ≡ length w.nodes + length (data_nodes p.outputs) = length-append w.nodes (data_nodes p.outputs) in
      omega arith

  one_creator : IsConsistent v → (i j : ℕ) (l m : Link) → slice_get v.links i ≡ Some l → slice_get v.links j ≡ Some m → l.link ≡ Create → m.link ≡ Create
      → l.target ≡ m.target → i ≡ j
  one_creator c i j l m a b is_l is_m same =
      elim (cases_eq i j) [
        | inl e ↦ e
        | inr ne ↦ absurd ((c.links.apart i j l m ne a b).creators (is_l, is_m, same))
      ]

  touched_one : IsConsistent v → (q : ProcessRecord) → find_record q.node v.records ≡ Some q → (r.node ≡ q.node) ⊎ (length w.nodes < q.node) → IsSoundRecord v q
  touched_one c q is (inl e) =
      let also : Some y ≡ Some q = sym there ∙ ap (λ (n : ℕ). find_record n v.records) e ∙ is in
      let same : y ≡ q = cc in
      subst (IsSoundRecord v) same (sound_record c)
  touched_one c q is (inr beyond) =
      let below = records_below w.nodes w.records sound.consistent.numbered in
      let lt : q.node < suc (length w.nodes) = found_holds (λ x. x.node < suc (length w.nodes)) q.node v.records q
      (all_at (λ x. x.node < suc (length w.nodes)) (λ x. x.node < suc (length w.nodes)) r.node (end_record w r p None code) w.records (λ x h. h) below (λ i d lt e. below i d lt)) is in
      absurd (omega arith)

  late : IsConsistent v → EndsLate w v r.node
  late c q is new = inr (new_ends c q is new)

  pub ended_is_sound : IsConsistent v → IsSound v
  ended_is_sound c =
      touched_worlds_are_sound w v r.node sound touched may (late c)
      (record {
        consistent = c;
        libraries = sound.libraries;
        upward = upward_after w r p None code sound.consistent found sound.upward;
        one_creator = one_creator c;
        fuel = fuel_stays;
      })
      (touched_one c)

  pub ended_goes_on : Continues w v
  ended_goes_on = touching_continues w v r.node sound touched may

pub ends_safe : EndsAreSafe
ends_safe w r p code sound found calculates live right =
    let cs = ends w r p None code in
    let same : applied w cs ≡ ended_world w r p None code = applied_ends w r p None code in
    let accepted : HasPlaces w (length w.nodes + length p.outputs) → IsAccepted w cs
    = λ places. end_accepted w r p code sound.consistent found calculates live right.over right.outputs places in
    record {
      accepted = accepted;
      sound = λ places.
          subst IsSound (sym same)
          (ended_is_sound w r p code sound found calculates live right (subst IsConsistent same (accepted_is_consistent w cs sound.consistent (accepted places))));
      continues = subst (Continues w) (sym same) (ended_goes_on w r p code sound found calculates live right);
    }
