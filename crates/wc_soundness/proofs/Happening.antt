-- There are changes exactly for what may happen.
use Rattle.std.proofs.Common.{◌≡◌, ℕ, true, false, List, Some, refl, sym, ap, subst, ◌∙◌}
use Rattle.wc_syntax.specs.declared.definition.Definition.{Definition}
use Rattle.wc_state.specs.declared.record.ProcessRecord.{ProcessRecord}
use Rattle.wc_world.specs.World.{World}
use Rattle.wc_world.specs.declared.change.Change.{Change}
use Rattle.wc_world.specs.Consistent.{IsConsistent}
use Rattle.wc_world.specs.Records.{find_record, has_ended}
use Rattle.wc_world.proofs.ReachedLists.{found_node}
use Rattle.wc_machine.specs.Kills.{kill_changes}
use Rattle.wc_machine.specs.Machine.{Event, submit, turn, pause, play, kill, Leads, submits, turns, pauses, plays, kills, pause_changes, play_changes}
use Rattle.wc_machine.specs.Readiness.{is_ready}
use Rattle.wc_machine.specs.Submissions.{Submits, submission}
use Rattle.wc_machine.specs.Turns.{TurnGives}
use Rattle.wc_machine.proofs.FittingAnswers.{turns_fit_needs}
use Rattle.wc_soundness.proofs.Replaced.{one_record}
use Rattle.wc_turn_laws.proofs.OneList.{one_list}
use Rattle.wc_soundness.specs.Happening.{MayHappen}
use Rattle.wc_soundness.specs.ListLaws.{EventsHaveChanges}
use Rattle.wc_soundness.proofs.ListTurns.{turns_have_changes}

module _ (poll : ℕ) (w : World) where
  -- ---- what leads to changes, by the event

  abbrev HasLiveWith : ℕ → (ProcessRecord → List Change) → List Change → Type 0
  HasLiveWith pid changes cs = (r : ProcessRecord) × (find_record pid w.records ≡ Some r) × (has_ended r.state ≡ false) × (cs ≡ changes r)

  abbrev LeadsBy : Event → List Change → Type 0
  LeadsBy (submit library caching name inputs) cs = Submits w library caching name inputs cs
  LeadsBy (turn pid a now) cs = (r : ProcessRecord) × (find_record pid w.records ≡ Some r) × (is_ready w now r ≡ true) × TurnGives poll now w r a cs
  LeadsBy (pause pid) cs = HasLiveWith pid pause_changes cs
  LeadsBy (play pid) cs = HasLiveWith pid play_changes cs
  LeadsBy (kill pid) cs = HasLiveWith pid (kill_changes w) cs

  leads_by : (e : Event) (cs : List Change) → Leads poll w e cs → LeadsBy e cs
  leads_by e cs (submits library caching name inputs ds s) = s
  leads_by e cs (turns r a now ds found ready gives) = (r, found, ready, gives)
  leads_by e cs (pauses r live) = (r, live.found, live.live, refl)
  leads_by e cs (plays r live) = (r, live.found, live.live, refl)
  leads_by e cs (kills r live) = (r, live.found, live.live, refl)

  -- a process that is found stands under its own number
  itself : (pid : ℕ) (r : ProcessRecord) → find_record pid w.records ≡ Some r → find_record r.node w.records ≡ Some r
  itself pid r found = ap (λ (n : ℕ). find_record n w.records) (found_node pid w.records r found) ∙ found

  marked_by : (event : ℕ → Event) (changes : ProcessRecord → List Change)
      → ((r : ProcessRecord) → find_record r.node w.records ≡ Some r → has_ended r.state ≡ false → Leads poll w (event r.node) (changes r))
      → (pid : ℕ) (cs : List Change) → HasLiveWith pid changes cs → Leads poll w (event pid) cs
  marked_by event changes one pid cs h =
      subst (λ (ds : List Change). Leads poll w (event pid) ds) (sym h.3)
      (subst (λ (n : ℕ). Leads poll w (event n) (changes h.0)) (found_node pid w.records h.0 h.1) (one h.0 (itself pid h.0 h.1) h.2))

  leads_from : (e : Event) (cs : List Change) → LeadsBy e cs → Leads poll w e cs
  leads_from (submit library caching name inputs) cs s = submits library caching name inputs cs s
  leads_from (turn pid a now) cs h =
      subst (λ (n : ℕ). Leads poll w (turn n a now) cs) (found_node pid w.records h.0 h.1) (turns h.0 a now cs (itself pid h.0 h.1) h.2 h.3)
  leads_from (pause pid) cs h = marked_by pause pause_changes (λ r found live. pauses r (record { found = found; live = live })) pid cs h
  leads_from (play pid) cs h = marked_by play play_changes (λ r found live. plays r (record { found = found; live = live })) pid cs h
  leads_from (kill pid) cs h = marked_by kill (kill_changes w) (λ r found live. kills r (record { found = found; live = live })) pid cs h

  -- ---- there are changes

  happens : IsConsistent w → (e : Event) (cs : List Change) → LeadsBy e cs → MayHappen w e
  happens c (submit library caching name inputs) cs s = record {
    checked = s.checked;
    names = s.names;
    values = s.values;
    definition = s.definition;
    is_there = s.is_there;
    takes = s.takes;
  }
  happens c (turn pid a now) cs h =
      record { process = h.0; found = h.1; ready = h.2; answered = turns_fit_needs poll now w h.0 a cs c (itself pid h.0 h.1) h.3 }
  happens c (pause pid) cs h = record { process = h.0; found = h.1; live = h.2 }
  happens c (play pid) cs h = record { process = h.0; found = h.1; live = h.2 }
  happens c (kill pid) cs h = record { process = h.0; found = h.1; live = h.2 }

  has_some : IsConsistent w → (e : Event) → MayHappen w e → (cs : List Change) × LeadsBy e cs
  has_some c (submit library caching name inputs) m = (
    submission w library caching name inputs m.definition,
    record {
      checked = m.checked;
      names = m.names;
      values = m.values;
      definition = m.definition;
      is_there = m.is_there;
      takes = m.takes;
      changes = refl;
    },
  )
  has_some c (turn pid a now) m =
      let t = turns_have_changes poll now w m.process a c (itself pid m.process m.found) m.ready m.answered in
      (t.0, (m.process, m.found, m.ready, t.1.gives))
  has_some c (pause pid) m = (pause_changes m.process, (m.process, m.found, m.live, refl))
  has_some c (play pid) m = (play_changes m.process, (m.process, m.found, m.live, refl))
  has_some c (kill pid) m = (kill_changes w m.process, (m.process, m.found, m.live, refl))

  -- ---- one list of them

  same_definition : (d f : Definition) → Some d ≡ Some f → d ≡ f
  same_definition d f e = cc

  one_marked : (pid : ℕ) (changes : ProcessRecord → List Change) (cs ds : List Change) → HasLiveWith pid changes cs → HasLiveWith pid changes ds → ds ≡ cs
  one_marked pid changes cs ds h k = k.3 ∙ ap changes (one_record (find_record pid w.records) k.0 h.0 k.1 h.1) ∙ sym h.3

  only_one : IsConsistent w → (e : Event) (cs ds : List Change) → LeadsBy e cs → LeadsBy e ds → ds ≡ cs
  only_one c (submit library caching name inputs) cs ds s t =
      let same : t.definition ≡ s.definition = same_definition t.definition s.definition (sym t.is_there ∙ s.is_there) in
      t.changes ∙ ap (submission w library caching name inputs) same ∙ sym s.changes
  only_one c (turn pid a now) cs ds h k =
      let same : k.0 ≡ h.0 = one_record (find_record pid w.records) k.0 h.0 k.1 h.1 in
      one_list poll now w h.0 a ds cs c (itself pid h.0 h.1) (subst (λ (r : ProcessRecord). TurnGives poll now w r a ds) same k.3) h.3
  only_one c (pause pid) cs ds h k = one_marked pid pause_changes cs ds h k
  only_one c (play pid) cs ds h k = one_marked pid play_changes cs ds h k
  only_one c (kill pid) cs ds h k = one_marked pid (kill_changes w) cs ds h k

pub events_have_changes : EventsHaveChanges
events_have_changes poll w e c = (
  (
    λ m. let h = has_some poll w c e m in (h.0, leads_from poll w e h.0 h.1),
    λ h. happens poll w c e h.0 (leads_by poll w e h.0 h.1),
  ),
  λ cs leads. record { leads = leads; only = λ ds other. only_one poll w c e cs ds (leads_by poll w e cs leads) (leads_by poll w e ds other) },
)
