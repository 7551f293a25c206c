-- A chain that ends touches itself alone, and all of its record is sound but for what it means.
use Rattle.std.proofs.Common.{◌≡◌, ◌≢◌, ◌⊎◌, ℕ, suc, ◌+◌, ◌<◌, ◌≤◌, Bool, true, false, Option, Some, None, List, [], ◌∷◌, length, inl, inr, refl, sym, ap, subst, ◌∙◌, arith}
use Rattle.std.specs.Prelude.{All, ◌==◌, ◌&&◌, not, if◌then◌else◌, option_and_then, slice_get}
use Rattle.std.proofs.lemmas.Bool.{cases_eq}
use Rattle.std.proofs.lemmas.List.{append-nil}
use Rattle.std.proofs.lemmas.List.Elements.{All-append, All-weaker}
use Rattle.wc_value.specs.declared.process.ProcessState.{ProcessState}
use Rattle.wc_syntax.specs.Findings.{head_of}
use Rattle.wc_syntax.specs.declared.definition.Definition.{Definition}
use Rattle.wc_graph.specs.declared.link.Link.{Link}
use Rattle.wc_graph.specs.declared.link.LinkType.TheVariants.{Create}
use Rattle.wc_machine.specs.Inputs.{bad_input}
use Rattle.wc_semantics.specs.Tables.{Label, Path}
use Rattle.wc_state.specs.declared.record.Checkpoint.{Checkpoint}
use Rattle.wc_state.specs.declared.record.Part.TheVariants as part
use Rattle.wc_state.specs.declared.record.ProcessKind.TheVariants as kind
use Rattle.wc_state.specs.declared.record.ProcessRecord.{ProcessRecord}
use Rattle.wc_world.specs.World.{World}
use Rattle.wc_world.specs.Applied.{is_created, is_killed, set}
use Rattle.wc_world.specs.Consistent.{IsConsistent}
use Rattle.wc_world.specs.Records.{calls, find_record, has_called, has_ended, is_calculation, is_call_from}
use Rattle.wc_world.proofs.FoundRecords.{found_holds}
use Rattle.wc_world.proofs.ReachedLists.{all_at, all_found, called_grown, unique}
use Rattle.wc_machine.specs.Continues.{Carries, Continues}
use Rattle.wc_machine.specs.Paths.{called_under, cut_after, follow, kills}
use Rattle.wc_machine.specs.Recorded.{its_definition}
use Rattle.wc_machine.specs.Sound.{AreNumbered, CallsAreKept, GoesUp, IsFitting, IsMeant, IsPlaced, IsSound, KeepsFew, TakesItsInputs, fuel_in, is_call_to}
use Rattle.wc_machine.specs.Sources.{KeepsRule}
use Rattle.wc_machine.proofs.Frames.{any_before, called_before, filter_before, no_call_from, records_below}
use Rattle.wc_soundness.specs.Touches.{EndsLate, HasSoundLists, IsSoundRecord, MayBeTouched, Touches}
use Rattle.wc_soundness.proofs.Others.{touched_worlds_are_sound}
use Rattle.wc_soundness.proofs.Touched.{called_link, first_false, inputs_kept, kill_kept, touching_continues, within}
use Rattle.wc_soundness.specs.Replaced.{record_to, set_to}
use Rattle.wc_soundness.proofs.KillChildren.{IsOver, all_over}
use Rattle.wc_soundness.proofs.Replaced.{found_now, found_other, one_record}
use Rattle.wc_soundness.proofs.EndedFuel.{IsOverLike, fuel_falls}
use Rattle.wc_soundness.proofs.Moves.{not_created}
use Rattle.wc_soundness.proofs.ChainStanding.{Standing, called_ended, is_live, its_fit, none_awaited}
use Rattle.wc_soundness.proofs.Returns.{ended_to, return_links, returns_add, returns_no_call, returns_up}

module _ (w : World) (r : ProcessRecord) (c : Checkpoint) (sound : IsSound w) (found : find_record r.node w.records ≡ Some r) (stands : Standing r c)
    (is_chain : r.kind ≡ kind.Chain) (s : ProcessState) (os : List (Label × ℕ)) (over : has_ended s ≡ true) where
  abbrev pub v : World
  v = ended_to w r s os

  abbrev pub y : ProcessRecord
  y = record_to (w.batches + 1) r s r.fuel part.Over

  live : has_ended r.state ≡ false
  live = is_live r c stands

  fitting : IsFitting w r
  fitting = its_fit w sound r found

  -- ---- it is touched alone

  pub there : find_record r.node v.records ≡ Some y
  there = found_now w (w.batches + 1) r s r.fuel part.Over found

  other : (q : ℕ) → r.node ≢ q → find_record q v.records ≡ find_record q w.records
  other q ne = found_other w (w.batches + 1) r s r.fuel part.Over q ne

  itself : (q : ProcessRecord) → find_record r.node w.records ≡ Some q → r ≡ q
  itself q h = one_record (find_record r.node w.records) r q found h

  carries : Carries r y
  carries = record {
    node = refl;
    kind = refl;
    definition = refl;
    library = refl;
    depth = refl;
    label = refl;
    caching = refl;
    started = λ ne.
        let old : is_created r.state ≡ false = not_created r.state (λ e. ne (fitting.started e)) in (
          ap (λ (b : Bool). if b && (not (is_created s) && not (is_killed s)) then w.batches + 1 else r.started) old,
          sym (fitting.source live),
        );
    ended = λ done. let e = live in absurd (cc (done, e));
  }

  pub touched : Touches w v r.node
  touched = record {
    libraries = ([], sym (append-nil w.libraries));
    nodes = ([], sym (append-nil w.nodes));
    new = return_links r.node os;
    links = refl;
    added = returns_add w.nodes r.node os;
    records = λ q ne le. other q ne;
    carried = λ q h. (y, there, subst (λ (x : ProcessRecord). Carries x y) (itself q h) carries);
    batches = omega arith;
  }

  pub may : MayBeTouched w r.node
  may q h = subst (λ (x : ProcessRecord). has_ended x.state ≡ false) (itself q h) live

  pub goes_on : Continues w v
  goes_on = touching_continues w v r.node sound touched may

  -- ---- its calls

  pub calls_over : All (λ l. is_call_from r.node l ≡ true → IsOver w l.target) w.links
  calls_over = all_over w sound r found (none_awaited w sound r found c stands)

  pub same_kills : (label : Label) (path : Path) → kills v r.node (label ∷ path) ≡ kills w r.node (label ∷ path)
  same_kills label path = at (called_under w.links r.node label) refl
    where
      same : called_under v.links r.node label ≡ called_under w.links r.node label
      same = called_before w.links (return_links r.node os) r.node label (no_call_from r.node (return_links r.node os) (returns_no_call r.node os))

      at : (o : Option ℕ) → called_under w.links r.node label ≡ o → kills v r.node (label ∷ path) ≡ kills w r.node (label ∷ path)
      at None h =
          ap (λ (o : Option ℕ). option_and_then (λ x. option_and_then (cut_after v) (find_record x v.records)) (option_and_then (λ y. follow v.links y path) o)) (same ∙ h)
          ∙ sym (ap (λ (o : Option ℕ). option_and_then (λ x. option_and_then (cut_after w) (find_record x w.records)) (option_and_then (λ y. follow w.links y path) o)) h)
      at (Some q) h =
          ap (λ (o : Option ℕ). option_and_then (λ x. option_and_then (cut_after v) (find_record x v.records)) (option_and_then (λ y. follow v.links y path) o)) (same ∙ h)
          ∙ kill_kept w v r.node sound touched may q (called_link (IsOver w) w.links r.node label q calls_over h) path
          ∙ sym (ap (λ (o : Option ℕ). option_and_then (λ x. option_and_then (cut_after w) (find_record x w.records)) (option_and_then (λ y. follow w.links y path) o)) h)

  kept_calls : CallsAreKept v y
  kept_calls q is called =
      let before : has_called w.links r.node q.node ≡ true =
      sym (any_before (λ l. is_call_from r.node l && (l.target == q.node)) w.links (return_links r.node os)
      (All-weaker (λ l. is_call_from r.node l ≡ false) (λ l. is_call_from r.node l && (l.target == q.node) ≡ false)
      (λ l h. first_false (is_call_from r.node l) (l.target == q.node) h) (return_links r.node os)
      (no_call_from r.node (return_links r.node os) (returns_no_call r.node os)))) ∙ called in
      elim (cases_eq r.node q.node) [
        | inl e ↦
            let self : has_ended r.state ≡ true = called_ended w sound r found c stands r found (ap (has_called w.links r.node) e ∙ before) in
            let alive = live in absurd (cc (self, alive))
        | inr ne ↦ inl (called_ended w sound r found c stands q (sym (other q.node ne) ∙ is) before)
      ]

  -- ---- the rest of its record

  takes_by : (o : Option Definition) → TakesItsInputs w r o → TakesItsInputs v y o
  takes_by None h = h
  takes_by (Some d) h = ap (bad_input (head_of d).inputs) (inputs_kept w v r.node sound touched may r.node (within w v r.node sound touched may r.node r found)) ∙ h

  fits : IsFitting v y
  fits = record {
    inputs = takes_by (its_definition w r) fitting.inputs;
    request = λ e. absurd (cc e);
    code = λ e. refl;
    source = λ e. refl;
    started = λ e. let done = over in let lives : has_ended s ≡ false = ap has_ended e in absurd (cc (done, lives));
    awaiting = tt;
    outputs = tt;
  }

  placed : IsPlaced v y
  placed =
      let p : IsPlaced w r = found_holds (IsPlaced w) r.node w.records r sound.placed found in
      let new = return_links r.node os in
      record {
        root = λ one. (
          any_before (is_call_to r.node) w.links new
              (All-weaker (λ l. calls l.link ≡ false) (λ l. is_call_to r.node l ≡ false) (λ l h. first_false (calls l.link) (l.target == r.node) h) new (returns_no_call r.node os))
              ∙ (p.root one).0,
          (p.root one).1,
        );
        called = λ ne.
            let x = p.called ne in
            let apart : r.node ≢ x.0.node = λ e.
            let one : r ≡ x.0 = itself x.0 (ap (λ (n : ℕ). find_record n w.records) e ∙ x.1.0) in
            let deeper : r.depth ≡ suc r.depth = x.1.2 ∙ ap (λ (q : ProcessRecord). suc q.depth) (sym one) in absurd (omega (arith, deeper)) in
            (x.0, (other x.0.node apart ∙ x.1.0, called_grown w.links new x.0.node r.node x.1.1, x.1.2, x.1.3));
        numbered = subst (AreNumbered 1) (sym (filter_before (is_call_from r.node) w.links new (no_call_from r.node new (returns_no_call r.node os)))) p.numbered;
      }

  no_calculation : is_calculation r.kind ≡ true → ⊥
  no_calculation h = let e : is_calculation r.kind ≡ false = ap is_calculation is_chain in cc (h, e)

  rule : KeepsRule v y
  rule = (λ is. absurd (no_calculation is), λ e. refl, λ e. refl, λ e. refl)

  sound_record : IsMeant v y → IsSoundRecord v y
  sound_record meant = record {
    fits = fits;
    placed = placed;
    calls = kept_calls;
    awaits = tt;
    names = tt;
    rule = rule;
    bare = λ is e. absurd (no_calculation is);
    given = λ is e. absurd (no_calculation is);
    live = λ e. let done = over in absurd (cc (done, e));
    ended = λ e. meant;
    few = λ e. found_holds KeepsFew r.node w.records r sound.few found;
  }

  -- ---- the lists

  like : IsOverLike r y
  like = record { node = refl; fuel = refl; over = over; awaits = λ pid. sym (none_awaited w sound r found c stands pid) }

  fuel_stays : fuel_in v.records v.records ≤ v.batches + length v.nodes
  fuel_stays =
      let u = unique 1 w.nodes w.records sound.consistent.numbered in
      let setting : ProcessRecord → ProcessRecord = set (w.batches + 1) (set_to r s r.fuel part.Over) in
      let less : fuel_in v.records v.records ≤ fuel_in w.records w.records
      = fuel_falls r.node setting w.records (all_found (λ x. IsOverLike x (setting x)) r.node w.records r u found like) in
      let le : fuel_in w.records w.records ≤ w.batches + length w.nodes = sound.fuel in
      omega arith

  one_creator : IsConsistent v → (i j : ℕ) (l m : Link) → slice_get v.links i ≡ Some l → slice_get v.links j ≡ Some m → l.link ≡ Create → m.link ≡ Create
      → l.target ≡ m.target → i ≡ j
  one_creator k i j l m a b is_l is_m same =
      elim (cases_eq i j) [
        | inl e ↦ e
        | inr ne ↦ absurd ((k.links.apart i j l m ne a b).creators (is_l, is_m, same))
      ]

  lists : IsConsistent v → HasSoundLists v
  lists k = record {
    consistent = k;
    libraries = sound.libraries;
    upward = All-append GoesUp w.links (return_links r.node os) sound.upward (returns_up r.node os);
    one_creator = one_creator k;
    fuel = fuel_stays;
  }

  -- ---- the world

  not_beyond : (q : ProcessRecord) → find_record q.node v.records ≡ Some q → length w.nodes < q.node → ⊥
  not_beyond q is beyond =
      let below = records_below w.nodes w.records sound.consistent.numbered in
      let lt : q.node < suc (length w.nodes) = found_holds (λ x. x.node < suc (length w.nodes)) q.node v.records q
      (all_at (λ x. x.node < suc (length w.nodes)) (λ x. x.node < suc (length w.nodes)) r.node (set (w.batches + 1) (set_to r s r.fuel part.Over)) w.records (λ x h. h) below
      (λ i d lt e. below i d lt)) is in
      absurd (omega arith)

  now_there : (q : ProcessRecord) → find_record q.node v.records ≡ Some q → r.node ≡ q.node → y ≡ q
  now_there q is e = one_record (find_record r.node v.records) y q there (ap (λ (n : ℕ). find_record n v.records) e ∙ is)

  ended_then : y.ended ≡ w.batches + 1
  ended_then = ap (λ (b : Bool). if b then w.batches + 1 else r.ended) over

  late : EndsLate w v r.node
  late q is (inl e) =
      let number : q.ended ≡ w.batches + 1 = ap (λ (x : ProcessRecord). x.ended) (sym (now_there q is e)) ∙ ended_then in
      inr (omega arith)
  late q is (inr beyond) = absurd (not_beyond q is beyond)

  touched_one : IsMeant v y → (q : ProcessRecord) → find_record q.node v.records ≡ Some q → (r.node ≡ q.node) ⊎ (length w.nodes < q.node) → IsSoundRecord v q
  touched_one meant q is (inl e) = subst (IsSoundRecord v) (now_there q is e) (sound_record meant)
  touched_one meant q is (inr beyond) = absurd (not_beyond q is beyond)

  -- The world after an end is sound where it is consistent and the ended chain is meant.
  pub ended_is_sound : IsConsistent v → IsMeant v y → IsSound v
  ended_is_sound k meant = touched_worlds_are_sound w v r.node sound touched may late (lists k) (touched_one meant)
