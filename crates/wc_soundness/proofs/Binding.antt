-- A waiting chain whose awaited children have ended binds them.
use Rattle.std.proofs.Common.{◌≡◌, ℕ, suc, ◌+◌, ◌<◌, ◌≤◌, Bool, true, false, List, [], ◌∷◌, Some, inl, inr, map, get_or, refl, sym, ap, subst, ◌∙◌, arith}
use Rattle.std.specs.Prelude.{All, ◌==◌, ◌&&◌, ◌||◌, not, if◌then◌else◌, is_some}
use Rattle.std.specs.List.{list_all, list_any}
use Rattle.std.proofs.lemmas.Bool.{and_from, and_parts, cases_Bool, cases_eq, cond-true, cond-false, eq-eqb, eqb-true, ne_eqb, or_cases}
use Rattle.std.proofs.lemmas.List.{drop_all}
use Rattle.std.proofs.lemmas.List.Folds.{list_any_at, list_any_none}
use Rattle.std.proofs.lemmas.List.Elements.{All-weaker}
use Rattle.wc_value.specs.declared.process.ProcessState.{ProcessState}
use Rattle.wc_value.specs.declared.process.ProcessState.TheVariants as state
use Rattle.wc_syntax.specs.declared.definition.Chain.{Chain}
use Rattle.wc_graph.specs.declared.link.Link.{Link}
use Rattle.wc_state.specs.declared.record.Await.{Await}
use Rattle.wc_state.specs.declared.record.Checkpoint.{Checkpoint}
use Rattle.wc_state.specs.declared.record.Part.{Part}
use Rattle.wc_state.specs.declared.record.Part.TheVariants as part
use Rattle.wc_state.specs.declared.record.ProcessKind.{ProcessKind}
use Rattle.wc_state.specs.declared.record.ProcessRecord.{ProcessRecord}
use Rattle.wc_world.specs.World.{World}
use Rattle.wc_world.specs.Applied.{is_created, is_killed}
use Rattle.wc_world.specs.Fits.{calls_from, chain_runs, has_output, held_fits, is_process, standing_fits}
use Rattle.wc_world.specs.Records.{find_record, has_called, has_ended, is_call_from}
use Rattle.wc_world.proofs.FoundRecords.{found_holds, left, right}
use Rattle.wc_world.proofs.ReachedGrown.{CheckpointFits, checkpoint_from, checkpoint_parts}
use Rattle.wc_world.proofs.ReachedLists.{all_at_apart, found_node, unique}
use Rattle.wc_machine.specs.Calls.{bound, bound_in, fuel_of}
use Rattle.wc_machine.specs.Paths.{call_links}
use Rattle.wc_machine.specs.Rest.{bound_calls, is_awaited}
use Rattle.wc_machine.specs.Sound.{AllDiffer, AreAwaited, CallsAreKept, HoldsEnded, IsEndedCall, IsFitting, IsKnownNode, IsSound, NamesKnown, OutputsAscend, awaited_numbers, fuel_in, is_awaited_in}
use Rattle.wc_soundness.specs.Replaced.{IsSet, SetsWell}
use Rattle.wc_soundness.proofs.Replaced.{after, at_it, found_now, now, one_record, setting}
use Rattle.wc_soundness.proofs.KillChildren.{IsOver}
use Rattle.wc_soundness.proofs.Sound.{sets_keep_sound}
use Rattle.wc_soundness.proofs.OtherRecords.{holds_stays, node_stays}
use Rattle.wc_soundness.proofs.OthersOnTrack.{any_gives, over_same}
use Rattle.wc_soundness.specs.Binding.{Waits}
use Rattle.wc_soundness.proofs.Held.{all_from, bound_holds, from_all}
use Rattle.wc_soundness.proofs.KnownChildren.{one_caller}
use Rattle.wc_soundness.proofs.OnTrack.{bound_on_track}
use Rattle.wc_soundness.proofs.KilledStanding.{alive, awaited_are, awaited_over, calls_over, fits, is_chain, many_calls, names_bound, names_known, no_output, number_of_calls, stands}
use Rattle.wc_soundness.proofs.Sums.{awaited_of, awaited_within, found_within, fuel_is_sum, is_one_of, kept_of, only, only_once, sum_of, sums_below}

-- a call is a link
pub over_by_call : (w : World) (caller pid : ℕ) → All (λ l. is_call_from caller l ≡ true → IsOver w l.target) w.links → has_called w.links caller pid ≡ true → IsOver w pid
over_by_call w caller pid over called =
    any_gives (IsOver w pid) (λ l. is_call_from caller l && (l.target == pid)) w.links called
    (λ j d lt pass.
    let l : Link = get_or w.links j d in
    subst (IsOver w) (eqb-true l.target pid (right (is_call_from caller l) (l.target == pid) pass)) (over j d lt (left (is_call_from caller l) (l.target == pid) pass)))

module _ (w : World) (sound : IsSound w) where
  pub same_caller : (a b pid : ℕ) → has_called w.links a pid ≡ true → has_called w.links b pid ≡ true → a ≡ b
  same_caller a b pid h g =
      any_gives (a ≡ b) (λ l. is_call_from a l && (l.target == pid)) w.links h
      (λ i d lt pass.
      any_gives (a ≡ b) (λ l. is_call_from b l && (l.target == pid)) w.links g
      (λ j e low also.
      let l : Link = get_or w.links i d in
      let m : Link = get_or w.links j e in
      one_caller w sound i j d e lt low a b (left (is_call_from a l) (l.target == pid) pass) (left (is_call_from b m) (m.target == pid) also)
      (eqb-true l.target pid (right (is_call_from a l) (l.target == pid) pass) ∙ sym (eqb-true m.target pid (right (is_call_from b m) (m.target == pid) also)))))

  called_among : (n : ℕ) (as' : List Await) (pid : ℕ) → list_all (λ a. has_called w.links n a.pid) as' ≡ true → is_one_of as' pid ≡ true → has_called w.links n pid ≡ true
  called_among n [] pid h e = absurd (cc e)
  called_among n (a ∷ as') pid h e =
      let parts = and_parts (has_called w.links n a.pid) (list_all (λ b. has_called w.links n b.pid) as') h in
      elim (or_cases (a.pid == pid) (is_one_of as' pid) e) [
        | inl same ↦ ap (has_called w.links n) (sym (eqb-true a.pid pid same)) ∙ parts.0
        | inr more ↦ called_among n as' pid parts.1 more
      ]

  -- what a process awaits it has called
  pub awaited_is_called : (x : ProcessRecord) (p : Part) → standing_fits w x p ≡ true → (pid : ℕ) → is_awaited p pid ≡ true → has_called w.links x.node pid ≡ true
  awaited_is_called x part.Fresh h pid e = absurd (cc e)
  awaited_is_called x (part.Chain d) h pid e = called_among x.node d.awaiting pid (checkpoint_parts w x d h).awaiting e
  awaited_is_called x (part.Job j) h pid e = absurd (cc e)
  awaited_is_called x part.Over h pid e = absurd (cc e)

any_found : (test : ProcessRecord → Bool) (n : ℕ) (rs : List ProcessRecord) (r : ProcessRecord) → find_record n rs ≡ Some r → test r ≡ true → list_any test rs ≡ true
any_found test n [] r h e = absurd (cc h)
any_found test n (x ∷ xs) r h e = at (x.node == n) h (any_found test n xs r)
  where
    or_true : (a b : Bool) → b ≡ true → (a || b) ≡ true
    or_true true b h = refl
    or_true false b h = h

    at : (b : Bool) → (if b then Some x else find_record n xs) ≡ Some r → (find_record n xs ≡ Some r → test r ≡ true → list_any test xs ≡ true) → (test x || list_any test xs) ≡ true
    at true h later = let same : r ≡ x = cc in λ i. (ap test (sym same) ∙ e) i || list_any test xs
    at false h later = or_true (test x) (list_any test xs) (later h e)

-- what isn't awaited isn't, where a record is set to what awaits nothing
module _ (w : World) (batch : ℕ) (r : ProcessRecord) (s : ProcessState) (fuel : ℕ) (p : Part) (none : (pid : ℕ) → is_awaited p pid ≡ false) where
  pub unawaited_if : (pid : ℕ) → All (λ x. (x.node ≡ r.node → ⊥) → is_awaited x.part pid ≡ false) w.records → is_awaited_in (after w batch r s fuel p).records pid ≡ false
  unawaited_if pid others =
      let all : All (λ x. is_awaited x.part pid ≡ false) (after w batch r s fuel p).records =
      all_at_apart (λ x. is_awaited x.part pid ≡ false) r.node (setting w batch r s fuel p) w.records others (λ j d lt e. none pid) in
      list_any_none (λ x. is_awaited x.part pid) (after w batch r s fuel p).records all

  pub unawaited_stays : (pid : ℕ) → is_awaited_in w.records pid ≡ false → is_awaited_in (after w batch r s fuel p).records pid ≡ false
  unawaited_stays pid h =
      unawaited_if pid
      (λ j d lt ne.
      elim (cases_Bool (is_awaited (get_or w.records j d).part pid)) [
        | inl is ↦ let any = list_any_at (λ x. is_awaited x.part pid) w.records j d lt is in absurd (cc (any, h))
        | inr free ↦ free
      ])

  -- another record counts for no more than before
  pub kept_less : (x : ProcessRecord) → kept_of (after w batch r s fuel p).records x ≤ kept_of w.records x
  kept_less x = at (is_awaited_in w.records x.node) refl
    where
      both : (a : Bool) → (if a || true then suc x.fuel else 0) ≡ suc x.fuel
      both true = refl
      both false = refl

      most : (b : Bool) → (if b then suc x.fuel else 0) ≤ suc x.fuel
      most true = omega arith
      most false = omega arith

      at : (b : Bool) → is_awaited_in w.records x.node ≡ b → kept_of (after w batch r s fuel p).records x ≤ kept_of w.records x
      at true is =
          let e : kept_of w.records x ≡ suc x.fuel = ap (λ (b : Bool). if not (has_ended x.state) || b then suc x.fuel else 0) is ∙ both (not (has_ended x.state)) in
          let le : kept_of (after w batch r s fuel p).records x ≤ suc x.fuel = most (not (has_ended x.state) || is_awaited_in (after w batch r s fuel p).records x.node) in
          omega arith
      at false is =
          let e : kept_of w.records x ≡ (if not (has_ended x.state) || false then suc x.fuel else 0) = ap (λ (b : Bool). if not (has_ended x.state) || b then suc x.fuel else 0) is in
          let f : kept_of (after w batch r s fuel p).records x ≡ (if not (has_ended x.state) || false then suc x.fuel else 0) =
          ap (λ (b : Bool). if not (has_ended x.state) || b then suc x.fuel else 0) (unawaited_stays x.node is) in
          omega arith

module _ (w : World) (sound : IsSound w) (r : ProcessRecord) (k : Chain) (c : Checkpoint) (h : Waits w r k c) (batch : ℕ) (first : 0 < batch) (later : w.batches ≤ batch)
    (few : batch ≤ 4000000000) where
  abbrev F : ℕ
  F = r.fuel + fuel_of w.records c.awaiting

  pub is_set : IsSet w batch r state.Running
  is_set = record {
    found = h.found;
    live = alive w sound r k c h;
    later = later;
    first = first;
    few = few;
    begun = λ e. cc e;
    start = ap (λ (s : ProcessState). if is_created s && (not (is_created state.Running) && not (is_killed state.Running)) then batch else r.started) h.state;
    unfinished = λ n e. cc e;
  }

  abbrev then_at : Part
  then_at = part.Chain (bound c)

  abbrev v : World
  v = after w batch r state.Running F then_at

  abbrev new : ProcessRecord
  new = now w batch r state.Running F then_at

  over : All (λ l. is_call_from r.node l ≡ true → IsOver w l.target) w.links
  over = calls_over w sound r k c h

  its_fits : CheckpointFits w r c
  its_fits = fits w sound r k c h

  held_bound : list_all (λ e. held_fits w.records e.1) (bound_in c.ctx c.awaiting) ≡ true
  held_bound =
      from_all (λ e. held_fits w.records e.1) (bound_in c.ctx c.awaiting)
      (bound_holds (λ x. held_fits w.records x ≡ true) (λ n. is_process w.records n ≡ true) (λ n p. p) (λ ns all. from_all (is_process w.records) ns all)
      (λ ns all. all_from (is_process w.records) ns all) c.awaiting c.ctx
      (All-weaker (λ a. IsEndedCall w r a.pid) (λ a. is_process w.records a.pid ≡ true) (λ a e. ap is_some e.1.1) c.awaiting (awaited_are w sound r k c h))
      (all_from (λ e. held_fits w.records e.1) c.ctx its_fits.ctx))

  standing : standing_fits w r then_at ≡ true
  standing = checkpoint_from w r (bound c) (record { some = its_fits.some; frames = its_fits.frames; awaiting = refl; ctx = held_bound; outputs = its_fits.outputs })

  calls_kept : CallsAreKept v new
  calls_kept x found called =
      let o : IsOver w x.node = over_by_call w r.node x.node over called in
      let there : find_record x.node v.records ≡ Some o.0 = (over_same w batch r state.Running F then_at is_set sound x.node o).found ∙ o.1 in
      inl (ap (λ (y : ProcessRecord). has_ended y.state) (one_record (find_record x.node v.records) x o.0 found there) ∙ o.2)

  names_then : NamesKnown v new then_at
  names_then =
      let known = names_known w sound r k c h in (
        All-weaker (λ e. HoldsEnded w r e.1) (λ e. HoldsEnded v r e.1) (λ e. holds_stays w batch r state.Running F then_at is_set sound r e.1) (bound_in c.ctx c.awaiting)
            (names_bound w sound r k c h),
        All-weaker (λ o. IsKnownNode w r o.1) (λ o. IsKnownNode v r o.1) (λ o. node_stays w batch r state.Running F then_at is_set sound r o.1) c.outputs known.1,
      )

  -- ---- fuel

  abbrev S : ℕ
  S = fuel_of w.records c.awaiting

  awaits_nothing : (pid : ℕ) → is_awaited then_at pid ≡ false
  awaits_nothing pid = refl

  -- no other process awaits the same
  then_unawaited : (pid : ℕ) → is_one_of c.awaiting pid ≡ true → is_awaited_in v.records pid ≡ false
  then_unawaited pid is =
      unawaited_if w batch r state.Running F then_at awaits_nothing pid
      (λ j d lt ne.
      let x : ProcessRecord = get_or w.records j d in
      elim (cases_Bool (is_awaited x.part pid)) [
        | inl too ↦
            let called : has_called w.links x.node pid ≡ true = awaited_is_called w sound x x.part (sound.consistent.records j d lt).standing pid too in
            let ours : has_called w.links r.node pid ≡ true = awaited_is_called w sound r r.part (stands w sound r k c h).standing pid (ap (λ (p : Part). is_awaited p pid) h.part ∙ is) in
            absurd (ne (same_caller w sound x.node r.node pid called ours))
        | inr free ↦ free
      ])

  not_itself : is_one_of c.awaiting r.node ≡ false
  not_itself =
      elim (cases_Bool (is_one_of c.awaiting r.node)) [
        | inl is ↦
            let o : IsOver w r.node = awaited_over w c.awaiting h.through r.node is in
            let same : o.0 ≡ r = one_record (find_record r.node w.records) o.0 r o.1 h.found in
            let ended : has_ended r.state ≡ true = ap (λ (y : ProcessRecord). has_ended y.state) (sym same) ∙ o.2 in
            let live = alive w sound r k c h in
            absurd (cc (ended, live))
        | inr free ↦ free
      ]

  abbrev Below : ProcessRecord → Type 0
  Below x = kept_of v.records (at_it w batch r state.Running F then_at x) + awaited_of c.awaiting x ≤ kept_of w.records x + only r.node S x

  below_it : Below r
  below_it =
      let here : at_it w batch r state.Running F then_at r ≡ new = cond-true (r.node == r.node) (setting w batch r state.Running F then_at r) r (eq-eqb r.node r.node refl) in
      let one : kept_of v.records (at_it w batch r state.Running F then_at r) ≡ suc F = ap (kept_of v.records) here in
      let two : awaited_of c.awaiting r ≡ 0 = ap (λ (b : Bool). if b then suc r.fuel else 0) not_itself in
      let three : kept_of w.records r ≡ suc r.fuel = ap (λ (b : Bool). if not b || is_awaited_in w.records r.node then suc r.fuel else 0) (alive w sound r k c h) in
      let four : only r.node S r ≡ S = cond-true (r.node == r.node) S 0 (eq-eqb r.node r.node refl) in
      omega arith

  below_other : (x : ProcessRecord) → find_record x.node w.records ≡ Some x → (x.node ≡ r.node → ⊥) → Below x
  below_other x found ne =
      let apart : (x.node == r.node) ≡ false = ne_eqb x.node r.node ne in
      let here : at_it w batch r state.Running F then_at x ≡ x = cond-false (x.node == r.node) (setting w batch r state.Running F then_at x) x apart in
      let one : kept_of v.records (at_it w batch r state.Running F then_at x) ≡ kept_of v.records x = ap (kept_of v.records) here in
      let less : kept_of v.records x ≤ kept_of w.records x = kept_less w batch r state.Running F then_at awaits_nothing x in
      elim (cases_Bool (is_one_of c.awaiting x.node)) [
        | inl is ↦
            let o : IsOver w x.node = awaited_over w c.awaiting h.through x.node is in
            let same : o.0 ≡ x = one_record (find_record x.node w.records) o.0 x o.1 found in
            let ended : has_ended x.state ≡ true = ap (λ (y : ProcessRecord). has_ended y.state) (sym same) ∙ o.2 in
            let none : kept_of v.records x ≡ 0 = λ i. if not (ended i) || then_unawaited x.node is i then suc x.fuel else 0 in
            let before : is_awaited_in w.records x.node ≡ true =
            any_found (λ y. is_awaited y.part x.node) r.node w.records r h.found (ap (λ (p : Part). is_awaited p x.node) h.part ∙ is) in
            let kept : kept_of w.records x ≡ suc x.fuel = λ i. if not (ended i) || before i then suc x.fuel else 0 in
            let child : awaited_of c.awaiting x ≡ suc x.fuel = ap (λ (b : Bool). if b then suc x.fuel else 0) is in
            omega arith
        | inr free ↦
            let child : awaited_of c.awaiting x ≡ 0 = ap (λ (b : Bool). if b then suc x.fuel else 0) free in
            omega arith
      ]

  below_all : All Below w.records
  below_all = λ j d lt.
      let x : ProcessRecord = get_or w.records j d in
      let found : find_record x.node w.records ≡ Some x = unique 1 w.nodes w.records sound.consistent.numbered j d lt in
      elim (cases_eq x.node r.node) [
        | inl e ↦
            let same : r ≡ x = one_record (find_record r.node w.records) r x h.found (ap (λ (n : ℕ). find_record n w.records) (sym e) ∙ found) in
            subst Below same below_it
        | inr ne ↦ below_other x found ne
      ]

  pub not_more : fuel_in v.records v.records ≤ fuel_in w.records w.records
  not_more =
      let sums = sums_below (at_it w batch r state.Running F then_at) (kept_of v.records) (kept_of w.records) (awaited_of c.awaiting) (only r.node S) w.records below_all in
      let fitting : IsFitting w r = found_holds (IsFitting w) r.node w.records r sound.records h.found in
      let apart : AllDiffer (map (λ a. a.pid) c.awaiting) = subst (λ (p : Part). AllDiffer (awaited_numbers p)) h.part fitting.awaiting in
      let there = All-weaker (λ a. IsEndedCall w r a.pid) (λ a. (x : ProcessRecord) × (find_record a.pid w.records ≡ Some x) × (x.node ≡ a.pid))
      (λ a e. (e.1.0, e.1.1, found_node a.pid w.records e.1.0 e.1.1)) c.awaiting (awaited_are w sound r k c h) in
      let children : S ≤ sum_of (awaited_of c.awaiting) w.records = awaited_within w.records c.awaiting apart there in
      let once : sum_of (only r.node S) w.records ≤ S = only_once 1 w.nodes w.records sound.consistent.numbered r.node S in
      let a : fuel_in v.records v.records ≡ sum_of (kept_of v.records) v.records = fuel_is_sum v.records v.records in
      let b : fuel_in w.records w.records ≡ sum_of (kept_of w.records) w.records = fuel_is_sum w.records w.records in
      omega arith

  -- the fuel that the chain has then is kept before, so it isn't too much
  pub kept_before : suc F ≤ fuel_in w.records w.records
  kept_before =
      let in_it : kept_of v.records new ≤ sum_of (kept_of v.records) v.records =
      found_within (kept_of v.records) r.node v.records new (found_now w batch r state.Running F then_at h.found) in
      let a : fuel_in v.records v.records ≡ sum_of (kept_of v.records) v.records = fuel_is_sum v.records v.records in
      let le = not_more in
      let one : kept_of v.records new ≡ suc F = refl in
      omega arith

  -- ---- the record and the world

  pub sets_well : SetsWell w batch r state.Running F then_at
  sets_well = record {
    part = ap (λ (k : ProcessKind). chain_runs k then_at) (is_chain w sound r k c h);
    fails = refl;
    standing = standing;
    settled = and_from (not (has_output r.node w.links)) (calls_from r.node w.links == c.calls) (no_output w sound r k c h)
        (eq-eqb (calls_from r.node w.links) c.calls (number_of_calls w sound r k c h));
    no_job = refl;
    awaiting = tt;
    outputs = subst OutputsAscend h.part (found_holds (IsFitting w) r.node w.records r sound.records h.found).outputs;
    given = λ calculates over. absurd (cc over);
    calls = calls_kept;
    awaits = subst (λ (ls : List Link). AreAwaited (suc (bound_calls (bound c))) ls [])
        (sym (drop_all (bound_calls (bound c)) (call_links w r.node) (let e = many_calls w sound r k c h in omega arith))) tt;
    names = names_then;
    live = λ live. bound_on_track w sound r k c h batch F is_set refl;
    meant = λ over. absurd (cc over);
    few = λ over. absurd (cc over);
    kept = let a = not_more in let b = sound.fuel in omega arith;
  }

  pub binding_sound : IsSound v
  binding_sound = sets_keep_sound w batch r state.Running F then_at sound is_set sets_well
