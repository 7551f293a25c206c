-- One live process is killed that awaits nothing, and whose calls have all ended.
use Rattle.std.proofs.Common.{◌≡◌, ℕ, zero, suc, ◌+◌, ◌<◌, ◌≤◌, Bool, true, false, List, [], ◌∷◌, Option, Some, None, inl, inr, length, get_or, refl, sym, ap, subst, ◌∙◌, arith}
use Rattle.std.specs.List.{list_any}
use Rattle.std.specs.Prelude.{All, ◌==◌, ◌&&◌, ◌||◌, not, filter, if◌then◌else◌, option_map, option_and_then}
use Rattle.std.proofs.lemmas.Bool.{and_parts, and_right, cases_eq, cond-false, cond-true, eq-eqb, eqb-true, ne_eqb}
use Rattle.std.proofs.lemmas.List.Elements.{filter_passes}
use Rattle.wc_value.specs.declared.process.ProcessState.{ProcessState}
use Rattle.wc_value.specs.declared.process.ProcessState.TheVariants as state
use Rattle.wc_value.specs.declared.process.Tree.{Tree, out-Tree}
use Rattle.wc_syntax.specs.Findings.{definition_named}
use Rattle.wc_syntax.specs.declared.definition.Definition.{Definition}
use Rattle.wc_graph.specs.declared.link.Link.{Link}
use Rattle.wc_semantics.specs.declared.progress.Answer.{Answer}
use Rattle.wc_semantics.specs.declared.progress.Answer.TheVariants.{Gave}
use Rattle.wc_semantics.specs.declared.progress.Replayed.{Replayed}
use Rattle.wc_semantics.specs.Meaning.{killed_first, meaning}
use Rattle.wc_semantics.specs.Tables.{Path, Table}
use Rattle.wc_state.specs.declared.record.Await.{Await}
use Rattle.wc_state.specs.declared.record.Checkpoint.{Checkpoint}
use Rattle.wc_state.specs.declared.record.Part.{Part}
use Rattle.wc_state.specs.declared.record.Part.TheVariants as part
use Rattle.wc_state.specs.declared.record.ProcessKind.{ProcessKind}
use Rattle.wc_state.specs.declared.record.ProcessKind.TheVariants as kind
use Rattle.wc_state.specs.declared.record.ProcessRecord.{ProcessRecord}
use Rattle.wc_world.specs.declared.change.Change.TheVariants as change
use Rattle.wc_world.specs.World.{World}
use Rattle.wc_world.specs.Applied.{is_created}
use Rattle.wc_world.specs.Consistent.{Stands}
use Rattle.wc_world.specs.Fits.{calls_from, counted_calls, has_output, is_nil, is_of_kind, part_fits}
use Rattle.wc_world.specs.Records.{find_record, has_ended, is_call_from, library_at}
use Rattle.wc_world.specs.Trees.{Branch, branches, outputs_of, recorded_tree, tree_with, tree_within, values_alone}
use Rattle.wc_world.proofs.FoundRecords.{IsDeeper, call_is_deeper, found_holds}
use Rattle.wc_world.proofs.ReachedGrown.{calls_grow, grows}
use Rattle.wc_world.proofs.ReachedLists.{all_at, unique}
use Rattle.wc_machine.specs.Agreement.{Agrees}
use Rattle.wc_machine.specs.Created.{IsGiven, killed, killed_outcome}
use Rattle.wc_machine.specs.Paths.{cut_after, kills}
use Rattle.wc_machine.specs.Recorded.{recorded_inputs}
use Rattle.wc_machine.specs.Rest.{GivesTree, IsOnTrack, is_awaited, levels_of, meant, with_stop}
use Rattle.wc_machine.specs.Sound.{CallsAreKept, IsMeant, IsSound, KeepsFew, fuel_in, is_awaited_in}
use Rattle.wc_machine.proofs.AcceptedEnds.{live_without_output}
use Rattle.wc_machine.proofs.CreatedOutputs.{without_output}
use Rattle.wc_machine.proofs.Frames.{branches_by, outputs_untouched}
use Rattle.wc_soundness.specs.Replaced.{IsSet, SetsWell, set_to}
use Rattle.wc_soundness.proofs.KillChildren.{IsOver}
use Rattle.wc_soundness.proofs.OthersOnTrack.{kills_below, over_same}
use Rattle.wc_soundness.proofs.Replaced.{after, at_it, found_now, narrows, now, one_record, setting}
use Rattle.wc_soundness.proofs.Sound.{sets_keep_sound}
use Rattle.wc_soundness.proofs.Binding.{kept_less, over_by_call}
use Rattle.wc_soundness.proofs.KilledStanding.{branches_filtered, branches_many, branches_there, counted}
use Rattle.wc_soundness.proofs.Sums.{fuel_is_sum, kept_of, sum_of, sums_below}
use Rattle.wc_soundness.proofs.KilledTrees.{IsChainEnd, IsLeveled, killed_before, killed_is, killed_tree_is, killed_with, levels_enough}

-- a live process that has made calls and awaits nothing is a running chain
record IsRunning (r : ProcessRecord) (n : ℕ) : Type 0 where
  checkpoint : Checkpoint
  part : r.part ≡ part.Chain checkpoint
  state : r.state ≡ state.Running
  calls : checkpoint.calls ≡ n

none_is_nil : (c : Checkpoint) → ((pid : ℕ) → is_awaited (part.Chain c) pid ≡ false) → is_nil c.awaiting ≡ true
none_is_nil c none = at c.awaiting none
  where
    not_so : true ≡ false → ⊥
    not_so e = cc e

    at : (as' : List Await) → ((pid : ℕ) → list_any (λ a. a.pid == pid) as' ≡ false) → is_nil as' ≡ true
    at [] none = refl
    at (a ∷ as') none =
        let h : ((a.pid == a.pid) || list_any (λ b. b.pid == a.pid) as') ≡ false = none a.pid in
        let e : (a.pid == a.pid) ≡ true = eq-eqb a.pid a.pid refl in
        absurd (not_so (sym (ap (λ (b : Bool). b || list_any (λ b. b.pid == a.pid) as') e) ∙ h))

running_state : (k : ProcessKind) (s : ProcessState) (c : Checkpoint) → part_fits k s (part.Chain c) ≡ true → has_ended s ≡ false → is_nil c.awaiting ≡ true → s ≡ state.Running
running_state k state.Created c fits live none = absurd (cc fits)
running_state k state.Running c fits live none = refl
running_state kind.Function state.Waiting c fits live none = absurd (cc fits)
running_state kind.Job state.Waiting c fits live none = absurd (cc fits)
running_state kind.Chain state.Waiting c fits live none = absurd (not_so (sym fits ∙ ap not none))
  where
    not_so : true ≡ false → ⊥
    not_so e = cc e
running_state k (state.Finished n) c fits live none = absurd (cc live)
running_state k (state.Excepted x) c fits live none = absurd (cc live)
running_state k state.Killed c fits live none = absurd (cc live)

is_running : (r : ProcessRecord) (n : ℕ) → part_fits r.kind r.state r.part ≡ true → has_ended r.state ≡ false → ((pid : ℕ) → is_awaited r.part pid ≡ false)
    → counted_calls r.part ≡ suc n → IsRunning r (suc n)
is_running r n fits live none many = at r.part refl
  where
    at : (p : Part) → r.part ≡ p → IsRunning r (suc n)
    at part.Fresh is = absurd (let e : 0 ≡ suc n = sym (ap counted_calls is) ∙ many in omega arith)
    at (part.Job j) is = absurd (let e : 0 ≡ suc n = sym (ap counted_calls is) ∙ many in omega arith)
    at part.Over is = absurd (let e : 0 ≡ suc n = sym (ap counted_calls is) ∙ many in omega arith)
    at (part.Chain c) is =
        record {
          checkpoint = c;
          part = is;
          state = running_state r.kind r.state c (ap (part_fits r.kind r.state) (sym is) ∙ fits) live
              (none_is_nil c (λ pid. ap (λ (p : Part). is_awaited p pid) (sym is) ∙ none pid));
          calls = sym (ap counted_calls is) ∙ many;
        }

library_there : (k : ProcessKind) (name : List ℕ) (o : Option (List Definition)) → is_of_kind k (option_and_then (definition_named name) o) ≡ true → (l : List Definition) × (o ≡ Some l)
library_there k name None h = absurd (cc h)
library_there k name (Some l) h = (l, refl)

pub kill_is_set : (w : World) (batch : ℕ) (r : ProcessRecord) → find_record r.node w.records ≡ Some r → has_ended r.state ≡ false → 0 < batch → w.batches ≤ batch
    → batch ≤ 4000000000 → IsSet w batch r state.Killed
kill_is_set w batch r found live first later few = record {
  found = found;
  live = live;
  later = later;
  first = first;
  few = few;
  begun = λ e. cc e;
  start = cond-false (is_created r.state && false) batch r.started (and_right (is_created r.state) false refl);
  unfinished = λ n e. cc e;
}

module _ (w : World) (sound : IsSound w) (r : ProcessRecord) (found : find_record r.node w.records ≡ Some r) (live : has_ended r.state ≡ false)
    (over : All (λ l. is_call_from r.node l ≡ true → IsOver w l.target) w.links) (none : (pid : ℕ) → is_awaited r.part pid ≡ false)
    (batch : ℕ) (first : 0 < batch) (later : w.batches ≤ batch) (few : batch ≤ 4000000000) where
  is_set : IsSet w batch r state.Killed
  is_set = kill_is_set w batch r found live first later few

  abbrev v : World
  v = after w batch r state.Killed r.fuel part.Over

  abbrev new : ProcessRecord
  new = now w batch r state.Killed r.fuel part.Over

  stands : Stands w r
  stands = found_holds (Stands w) r.node w.records r sound.consistent.records found

  live_parts : (not (has_output r.node w.links) ≡ true) × ((calls_from r.node w.links == counted_calls r.part) ≡ true)
  live_parts =
      and_parts (not (has_output r.node w.links)) (calls_from r.node w.links == counted_calls r.part)
      (ap (λ (b : Bool). b || (not (has_output r.node w.links) && (calls_from r.node w.links == counted_calls r.part))) (sym live) ∙ stands.settled)

  many : calls_from r.node w.links ≡ counted_calls r.part
  many = eqb-true (calls_from r.node w.links) (counted_calls r.part) live_parts.1

  no_outputs : values_alone (outputs_of w r.node) ≡ []
  no_outputs = ap values_alone (outputs_untouched w.nodes r.node w.links [] (without_output r.node w.links (live_without_output w r stands live)))

  -- ---- its tree

  abbrev bs : List Branch
  bs = (branches_there w sound r.node w.links over).0

  its_branches : branches (recorded_tree w) r.node w.links ≡ Some bs
  its_branches = (branches_there w sound r.node w.links over).1

  -- the world before, as it is told in that batch
  abbrev told : World
  told = record { nodes = w.nodes; links = w.links; records = w.records; libraries = w.libraries; batches = batch }

  leveled : IsLeveled v
  leveled = record {
    calls = calls_grow told v (grows batch told (change.Set (set_to r state.Killed r.fuel part.Over))) w.links sound.consistent.calls;
    depths = all_at (Stands w) (λ x. x.depth ≤ 16) r.node (setting w batch r state.Killed r.fuel part.Over) w.records (λ x s. s.not_above) sound.consistent.records
        (λ i d lt e. (sound.consistent.records i d lt).not_above);
  }

  branches_then : branches (tree_within 15 v) r.node w.links ≡ Some bs
  branches_then =
      branches_by (tree_within 15 v) (recorded_tree w) r.node w.links
      (λ i d lt called.
      let l : Link = get_or w.links i d in
      let o : IsOver w l.target = over i d lt called in
      let deeper : IsDeeper new (find_record l.target v.records) =
      call_is_deeper v.records l r.node new (found_now w batch r state.Killed r.fuel part.Over found) called (leveled.calls i d lt) in
      let depth : deeper.0.depth ≡ suc r.depth = deeper.2 in
      let low : 1 ≤ r.depth = stands.not_below in
      levels_enough v leveled 15 l.target deeper.0 deeper.1 (omega arith) ∙ (over_same w batch r state.Killed r.fuel part.Over is_set sound l.target o).tree)
      ∙ its_branches

  tree_then : recorded_tree v r.node ≡ Some (killed_with r.definition bs)
  tree_then =
      ap (option_and_then (λ (x : ProcessRecord). option_map (tree_with x (values_alone (outputs_of w r.node))) (branches (tree_within 15 v) r.node w.links)))
      (found_now w batch r state.Killed r.fuel part.Over found)
      ∙ (λ i. option_map (tree_with new (no_outputs i)) (branches_then i))

  -- ---- its kills

  kills_then : (path : Path) → kills v r.node path ≡ with_stop (kills w r.node) (Some (calls_from r.node w.links)) path
  kills_then [] = ap (option_and_then (cut_after v)) (found_now w batch r state.Killed r.fuel part.Over found)
  kills_then (label ∷ path) = kills_below w batch r state.Killed r.fuel part.Over is_set sound r.node over label path

  library : (l : List Definition) × (library_at w.libraries r.library ≡ Some l)
  library = library_there r.kind r.definition (library_at w.libraries r.library) stands.defined

  -- ---- it is meant

  -- with a number of calls, it means this tree
  Means : Table → ℕ → Type 0
  Means table n = GivesTree (meant w r table (with_stop (kills w r.node) (Some n)) r.fuel) (killed_with r.definition bs)

  means_none : (table : Table) → calls_from r.node w.links ≡ 0 → Means table 0
  unfolding Means
  means_none table n =
      let count : length bs ≡ 0 =
      branches_many (recorded_tree w) r.node (filter (is_call_from r.node) w.links) bs (filter_passes (is_call_from r.node) w.links) (branches_filtered (recorded_tree w) r.node w.links ∙ its_branches)
      ∙ counted r.node w.links ∙ n in
      let empty : [] ≡ bs = nil bs count in (
        killed_first r.definition,
        r.fuel,
        ap (option_map (λ library. meaning (levels_of r) library table (with_stop (kills w r.node) (Some 0)) r.fuel r.definition (recorded_inputs w r.node))) library.1
            ∙ ap (λ (x : Answer). Some x) (killed_before (levels_of r) library.0 table (with_stop (kills w r.node) (Some 0)) r.fuel r.definition (recorded_inputs w r.node) refl),
        ap (killed_with r.definition) empty,
      )
    where
      nil : (xs : List Branch) → length xs ≡ 0 → [] ≡ xs
      nil [] h = refl
      nil (x ∷ xs) h = absurd (omega arith)

  means_some : (table : Table) → Agrees table v r.node → (n : ℕ) → calls_from r.node w.links ≡ suc n → Means table (suc n)
  unfolding Means
  means_some table agrees n count =
      let runs : IsRunning r (suc n) = is_running r n stands.part live none (sym many ∙ count) in
      let track : IsOnTrack w r = found_holds (λ q. has_ended q.state ≡ false → IsOnTrack w q) r.node w.records r sound.live found live in
      let before = narrows w batch r state.Killed r.fuel part.Over is_set sound r found table agrees in
      let calls : runs.checkpoint.calls ≡ suc n = runs.calls in
      let h = track.cut table before runs.state runs.checkpoint runs.part (omega arith) in
      let same : Some h.0 ≡ Some bs = sym h.1 ∙ its_branches in
      let trees : h.0 ≡ bs = cc in
      let g : GivesTree (meant w r table (with_stop (kills w r.node) (Some (suc n))) r.fuel) h.2.0 =
      subst (λ (m : ℕ). GivesTree (meant w r table (with_stop (kills w r.node) (Some m)) r.fuel) h.2.0) calls h.2.1 in
      let x : Replayed = g.0 in
      let opened : Some (meaning (levels_of r) library.0 table (with_stop (kills w r.node) (Some (suc n))) r.fuel r.definition (recorded_inputs w r.node)) ≡ Some (Gave x g.1) =
      sym (ap (option_map (λ library. meaning (levels_of r) library table (with_stop (kills w r.node) (Some (suc n))) r.fuel r.definition (recorded_inputs w r.node))) library.1) ∙ g.2 in
      let gives : meaning (levels_of r) library.0 table (with_stop (kills w r.node) (Some (suc n))) r.fuel r.definition (recorded_inputs w r.node) ≡ Gave x g.1 = cc in
      let e : IsChainEnd r.definition x =
      killed_is (levels_of r) library.0 table (with_stop (kills w r.node) (Some (suc n))) r.fuel r.definition (recorded_inputs w r.node) n x g.1 refl gives in
      (x, g.1, g.2, killed_tree_is r.definition x bs e (ap (λ (t : Tree). (out-Tree t).state) g.3 ∙ h.2.2) (ap (λ (t : Tree). (out-Tree t).calls) g.3 ∙ h.2.3 ∙ trees))

  means_by : (table : Table) → Agrees table v r.node → (n : ℕ) → calls_from r.node w.links ≡ n → Means table n
  means_by table agrees zero count = means_none table count
  means_by table agrees (suc n) count = means_some table agrees n count

  is_meant : IsMeant v new
  unfolding Means
  is_meant table agrees = (
    killed_with r.definition bs,
    tree_then,
    subst (λ (x : Option Answer). GivesTree x (killed_with r.definition bs)) (λ i. meant w r table (λ path. sym (kills_then path) i) r.fuel)
        (means_by table agrees (calls_from r.node w.links) refl),
  )

  -- ---- fuel

  below : All (λ x. kept_of v.records (at_it w batch r state.Killed r.fuel part.Over x) + 0 ≤ kept_of w.records x + 0) w.records
  below = λ j d lt.
      let x : ProcessRecord = get_or w.records j d in
      let there : find_record x.node w.records ≡ Some x = unique 1 w.nodes w.records sound.consistent.numbered j d lt in
      elim (cases_eq x.node r.node) [
        | inl e ↦
            let same : r ≡ x = one_record (find_record r.node w.records) r x found (ap (λ (n : ℕ). find_record n w.records) (sym e) ∙ there) in
            subst (λ (y : ProcessRecord). kept_of v.records (at_it w batch r state.Killed r.fuel part.Over y) + 0 ≤ kept_of w.records y + 0) same it
        | inr ne ↦
            let here : at_it w batch r state.Killed r.fuel part.Over x ≡ x = cond-false (x.node == r.node) (setting w batch r state.Killed r.fuel part.Over x) x (ne_eqb x.node r.node ne) in
            let e : kept_of v.records (at_it w batch r state.Killed r.fuel part.Over x) ≡ kept_of v.records x = ap (kept_of v.records) here in
            let le : kept_of v.records x ≤ kept_of w.records x = kept_less w batch r state.Killed r.fuel part.Over (λ pid. refl) x in
            omega arith
      ]
    where
      most : (b : Bool) (n : ℕ) → (if b then suc n else 0) ≤ suc n
      most true n = omega arith
      most false n = omega arith

      it : kept_of v.records (at_it w batch r state.Killed r.fuel part.Over r) + 0 ≤ kept_of w.records r + 0
      it =
          let here : at_it w batch r state.Killed r.fuel part.Over r ≡ new = cond-true (r.node == r.node) (setting w batch r state.Killed r.fuel part.Over r) r (eq-eqb r.node r.node refl) in
          let e : kept_of v.records (at_it w batch r state.Killed r.fuel part.Over r) ≡ kept_of v.records new = ap (kept_of v.records) here in
          let le : kept_of v.records new ≤ suc r.fuel = most (is_awaited_in v.records r.node) r.fuel in
          let before : kept_of w.records r ≡ suc r.fuel = ap (λ (b : Bool). if not b || is_awaited_in w.records r.node then suc r.fuel else 0) live in
          omega arith

  not_more : fuel_in v.records v.records ≤ fuel_in w.records w.records
  not_more =
      let sums = sums_below (at_it w batch r state.Killed r.fuel part.Over) (kept_of v.records) (kept_of w.records) (λ x. 0) (λ x. 0) w.records below in
      let a : fuel_in v.records v.records ≡ sum_of (kept_of v.records) v.records = fuel_is_sum v.records v.records in
      let b : fuel_in w.records w.records ≡ sum_of (kept_of w.records) w.records = fuel_is_sum w.records w.records in
      omega arith

  -- ---- the world

  given : IsGiven v new
  given = (killed_outcome, killed new (found_now w batch r state.Killed r.fuel part.Over found) refl (λ is_job. refl), refl, no_outputs)

  calls_kept : CallsAreKept v new
  calls_kept x there called =
      let o : IsOver w x.node = over_by_call w r.node x.node over called in
      let same : find_record x.node v.records ≡ Some o.0 = (over_same w batch r state.Killed r.fuel part.Over is_set sound x.node o).found ∙ o.1 in
      inl (ap (λ (y : ProcessRecord). has_ended y.state) (one_record (find_record x.node v.records) x o.0 there same) ∙ o.2)

  pub killed_well : SetsWell w batch r state.Killed r.fuel part.Over
  killed_well = record {
    part = refl;
    fails = refl;
    standing = refl;
    settled = refl;
    no_job = refl;
    awaiting = tt;
    outputs = tt;
    given = λ calculates ended. given;
    calls = calls_kept;
    awaits = tt;
    names = tt;
    live = λ lives. absurd (cc lives);
    meant = λ ended. is_meant;
    few = λ ended. found_holds KeepsFew r.node w.records r sound.few found;
    kept = let a = not_more in let b = sound.fuel in omega arith;
  }

  pub killed_sound : IsSound v
  killed_sound = sets_keep_sound w batch r state.Killed r.fuel part.Over sound is_set killed_well
