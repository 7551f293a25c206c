-- A pause, a play and a kill of a live process.
use Rattle.std.proofs.Common.{◌≡◌, ℕ, ◌+◌, ◌≤◌, ◌<◌, Bool, true, false, List, [], ◌∷◌, map, length, Some, None, refl, sym, ap, subst, ◌∙◌, arith}
use Rattle.std.specs.Prelude.{◌≢◌, if◌then◌else◌}
use Rattle.wc_graph.specs.declared.node.NodeKind.{NodeKind}
use Rattle.wc_state.specs.declared.record.ProcessRecord.{ProcessRecord}
use Rattle.wc_world.specs.declared.change.Change.{Change}
use Rattle.wc_world.specs.World.{World}
use Rattle.wc_world.specs.Accepted.{IsAccepted, IsReached}
use Rattle.wc_world.specs.After.{nodes_in}
use Rattle.wc_world.specs.Applied.{applied}
use Rattle.wc_world.specs.Records.{find_record, has_ended}
use Rattle.wc_world.proofs.ReachedWorlds.{reached_is_consistent}
use Rattle.wc_world.proofs.SnapshotLists.{number_of_found}
use Rattle.wc_machine.specs.Continues.{Continues}
use Rattle.wc_machine.specs.Kills.{kill_changes}
use Rattle.wc_machine.specs.Laws.{HasPlaces}
use Rattle.wc_machine.specs.Machine.{Event, IsLive, Leads, after_changes, kill, kills, marked, pause, pauses, pause_changes, play, plays, play_changes, renewed}
use Rattle.wc_machine.specs.Sound.{IsSound}
use Rattle.wc_soundness.proofs.KillOrder.{all_below, change_of, changes_are}
use Rattle.wc_soundness.proofs.CalculationEvents.{pause_accepted, play_accepted}
use Rattle.wc_soundness.proofs.AcceptedKills.{kill_accepted}
use Rattle.wc_machine.specs.Refusals.{FullOfBatches, NoneHolds, RefusesLive}
use Rattle.wc_machine.specs.declared.error.TurnError.{TurnError}
use Rattle.wc_machine.specs.declared.error.TurnError.TheVariants as error
use Rattle.wc_machine.proofs.Counted.{nodes_more}
use Rattle.wc_machine.proofs.Rooms.{none_full_batch}
use Rattle.wc_core.specs.Refusals.{AreChangesOf, RefusesMark}
use Rattle.wc_core.proofs.Happening.{its_changes, leaves_sound}
use Rattle.wc_core.proofs.TurnsByKind.{found_itself}

-- there is a batch for changes, where there are some
abbrev pub HasBatchFor : World → List Change → Type 0
HasBatchFor w cs = cs ≢ [] → w.batches + 1 ≤ 4000000000

-- Changes that add no node, to which an event of a live process leads.
pub record IsMark (w : World) (e : Event) (cs : List Change) : Type 0 where
  pub leads : (poll : ℕ) → Leads poll w e cs
  pub bare : nodes_in cs ≡ []

module _ (w : World) (e : Event) (cs : List Change) (reached : IsReached w) (m : IsMark w e cs) where
  pub mark_changes : AreChangesOf w e cs
  mark_changes poll = its_changes poll w e cs (m.leads poll) reached

  module _ (room : HasBatchFor w cs) where
    places : cs ≢ [] → HasPlaces w (length (applied w cs).nodes)
    places some =
        let nodes : length (applied w cs).nodes ≡ length w.nodes + 0 = nodes_more w cs ∙ ap (λ (ns : List NodeKind). length w.nodes + length ns) m.bare in
        let few : length w.nodes ≤ 8000000 = (reached_is_consistent w reached).few in
        let batch : w.batches + 1 ≤ 4000000000 = room some in
        record { nodes = omega arith; batches = omega arith }

    pub mark_continues : IsSound w → Continues w (after_changes w cs)
    mark_continues sound = (leaves_sound 0 w e cs (m.leads 0) places sound).continues

    pub mark_sound : IsSound w → IsSound (after_changes w cs)
    mark_sound sound = (leaves_sound 0 w e cs (m.leads 0) places sound).sound

    pub mark_allowed : (pid : ℕ) (r : ProcessRecord) → find_record pid w.records ≡ Some r → has_ended r.state ≡ false → NoneHolds (RefusesMark w e pid)
    mark_allowed pid r found live error.NotReady h = absurd h
    mark_allowed pid r found live (error.Full what count limit) h =
        none_full_batch (AreChangesOf w e) w cs (λ ds g. (mark_changes 0).only ds (g 0).leads) room (error.Full what count limit) h
    mark_allowed pid r found live error.UnknownProcess h = let both : Some r ≡ None = sym found ∙ h in absurd (cc)
    mark_allowed pid r found live (error.Ended s) h =
        let same : Some r ≡ Some h.0 = sym found ∙ h.1 in
        let one : r ≡ h.0 = cc in
        let both : false ≡ true = sym live ∙ ap (λ (x : ProcessRecord). has_ended x.state) one ∙ h.2 in absurd (cc)
    mark_allowed pid r found live error.UnknownName h = absurd h
    mark_allowed pid r found live (error.BadInputs port) h = absurd h
    mark_allowed pid r found live error.OutOfMemory h = refl

  pub mark_refused : (pid : ℕ) (x : TurnError) → FullOfBatches (λ ds. ds ≡ cs) w x → RefusesMark w e pid x
  mark_refused pid error.NotReady h = h
  mark_refused pid (error.Full what count limit) h = ((h.0.0, subst (AreChangesOf w e) (sym h.0.1) mark_changes, h.0.2), h.1)
  mark_refused pid error.UnknownProcess h = absurd h
  mark_refused pid (error.Ended s) h = absurd h
  mark_refused pid error.UnknownName h = h
  mark_refused pid (error.BadInputs port) h = h
  mark_refused pid error.OutOfMemory h = tt

-- what doesn't live is refused
pub not_live : (w : World) (e : Event) (pid : ℕ) (x : TurnError) → RefusesLive w pid x → RefusesMark w e pid x
not_live w e pid error.NotReady h = h
not_live w e pid (error.Full what count limit) h = absurd h
not_live w e pid error.UnknownProcess h = h
not_live w e pid (error.Ended s) h = h
not_live w e pid error.UnknownName h = h
not_live w e pid (error.BadInputs port) h = h
not_live w e pid error.OutOfMemory h = absurd h

-- ---- the three events

no_nodes : (w : World) (xs : List ProcessRecord) → nodes_in (map (change_of w) xs) ≡ []
no_nodes w [] = refl
no_nodes w (x ∷ xs) = no_nodes w xs

module _ (w : World) (pid : ℕ) (r : ProcessRecord) (found : find_record pid w.records ≡ Some r) (live : has_ended r.state ≡ false) where
  number : r.node ≡ pid
  number = number_of_found pid w.records r found

  is_live : IsLive w r
  is_live = record { found = found_itself w pid r found; live = live }

  pub is_pause : IsMark w (pause pid) (pause_changes r)
  is_pause = record { leads = λ poll. subst (λ (n : ℕ). Leads poll w (pause n) (pause_changes r)) number (pauses r is_live); bare = by r.paused }
    where
      by : (b : Bool) → nodes_in (if b then [] else marked r true r.part ∷ []) ≡ []
      by true = refl
      by false = refl

  pub is_play : IsMark w (play pid) (play_changes r)
  is_play = record { leads = λ poll. subst (λ (n : ℕ). Leads poll w (play n) (play_changes r)) number (plays r is_live); bare = by r.paused }
    where
      by : (b : Bool) → nodes_in (if b then marked r false (renewed r.part) ∷ [] else []) ≡ []
      by true = refl
      by false = refl

  pub is_kill : IsMark w (kill pid) (kill_changes w r)
  is_kill = record {
    leads = λ poll. subst (λ (n : ℕ). Leads poll w (kill n) (kill_changes w r)) number (kills r is_live);
    bare = ap nodes_in (changes_are w 16 r) ∙ no_nodes w (all_below w 16 r);
  }

  module _ (reached : IsReached w) where
    pub pause_is_accepted : HasBatchFor w (pause_changes r) → pause_changes r ≢ [] → IsAccepted w (pause_changes r)
    pause_is_accepted room some =
        let batch : w.batches + 1 ≤ 4000000000 = room some in
        let few : w.batches < 4000000000 = omega arith in
        pause_accepted w (reached_is_consistent w reached) r is_live.found live few some

    pub play_is_accepted : HasBatchFor w (play_changes r) → play_changes r ≢ [] → IsAccepted w (play_changes r)
    play_is_accepted room some =
        let batch : w.batches + 1 ≤ 4000000000 = room some in
        let few : w.batches < 4000000000 = omega arith in
        play_accepted w (reached_is_consistent w reached) r is_live.found live few some

    pub kill_is_accepted : HasBatchFor w (kill_changes w r) → kill_changes w r ≢ [] → IsAccepted w (kill_changes w r)
    kill_is_accepted room some =
        let batch : w.batches + 1 ≤ 4000000000 = room some in
        let few : w.batches < 4000000000 = omega arith in
        kill_accepted w (reached_is_consistent w reached) r is_live few
