-- What an event that has happened leaves: its process is there as it was asked for.
use Rattle.std.proofs.Common.{◌≡◌, ℕ, ◌+◌, Bool, true, false, List, [], ◌∷◌, Some, None, refl, sym, ap, subst, ◌∙◌}
use Rattle.std.specs.Prelude.{◌==◌, if◌then◌else◌, option_map}
use Rattle.std.proofs.lemmas.Bool.{cond-true, eq-eqb}
use Rattle.wc_state.specs.declared.record.Part.{Part}
use Rattle.wc_state.specs.declared.record.ProcessRecord.{ProcessRecord}
use Rattle.wc_world.specs.declared.change.Change.{Change}
use Rattle.wc_world.specs.declared.change.Change.TheVariants as change
use Rattle.wc_records.specs.declared.change.SetProcess.{SetProcess}
use Rattle.wc_world.specs.World.{World}
use Rattle.wc_world.specs.Accepted.{IsReached}
use Rattle.wc_world.specs.Applied.{applied, set}
use Rattle.wc_world.specs.Records.{find_record, has_ended}
use Rattle.wc_world.proofs.After.{find_at}
use Rattle.wc_world.proofs.ReachedLists.{found_node}
use Rattle.wc_world.proofs.ReachedWorlds.{reached_is_consistent}
use Rattle.wc_machine.specs.Machine.{after_changes, marked, renewed}
use Rattle.wc_machine.specs.Submissions.{submitted_number}
use Rattle.wc_drill.proofs.Soundness.KillOrder.{changes_are}
use Rattle.wc_drill.proofs.Runner.Happening.{after_some}
use Rattle.wc_plan.specs.declared.deed.Asked.{Asked}
use Rattle.wc_plan.specs.declared.deed.Asked.TheVariants as asked
use Rattle.wc_act.specs.Acknowledged.{HasMark, HasProcess, IsKilled}
use Rattle.wc_act.specs.Events.{Changes, line_of}
use Rattle.wc_plan.specs.Plans.{IsReadyAsked}
use Rattle.wc_act.specs.Rows.{HasHappened}
use Rattle.wc_act.proofs.Asking.{kill_some, kills_of, pauses_of, plays_of, submission_some}
use Rattle.wc_act.proofs.Entered.{has_process}
use Rattle.wc_act.proofs.Killed.{is_killed}

-- a process that is set is found as it is set
set_found : (w : World) (pid : ℕ) (r : ProcessRecord) (s : SetProcess) → find_record pid w.records ≡ Some r → s.pid ≡ pid
    → find_record pid (applied w (change.Set s ∷ [])).records ≡ Some (set (w.batches + 1) s r)
set_found w pid r s found number =
    find_at s.pid pid (set (w.batches + 1) s) w.records (λ z. refl)
    ∙ cond-true (s.pid == pid) (option_map (set (w.batches + 1) s) (find_record pid w.records)) (find_record pid w.records) (eq-eqb s.pid pid number)
    ∙ ap (option_map (set (w.batches + 1) s)) found

module _ (w : World) (pid : ℕ) (r : ProcessRecord) (found : find_record pid w.records ≡ Some r) (live : has_ended r.state ≡ false) where
  has_mark : (paused : Bool) (p : Part) → HasMark (applied w (marked r paused p ∷ [])) pid paused
  has_mark paused p =
      let s : SetProcess = record { pid = r.node; state = r.state; paused = paused; cached_from = 0; fuel = r.fuel; code = None; part = p } in
      record { process = set (w.batches + 1) s r; found = set_found w pid r s found (found_node pid w.records r found); live = live; mark = refl }

  is_paused : (b : Bool) → r.paused ≡ b → HasMark (after_changes w (if b then [] else marked r true r.part ∷ [])) pid true
  is_paused true is = record { process = r; found = found; live = live; mark = is }
  is_paused false is = has_mark true r.part

  is_playing : (b : Bool) → r.paused ≡ b → HasMark (after_changes w (if b then marked r false (renewed r.part) ∷ [] else [])) pid false
  is_playing true is = has_mark false (renewed r.part)
  is_playing false is = record { process = r; found = found; live = live; mark = is }

killed_then : (w : World) (pid : ℕ) (cs : List Change) → IsReached w → Changes w (asked.Kill pid) cs → IsKilled (after_changes w cs) pid
killed_then w pid cs reached leads =
    let p = kills_of w pid cs leads in
    let number : p.process.node ≡ pid = found_node pid w.records p.process p.found in
    let there : find_record p.process.node w.records ≡ Some p.process = ap (λ (n : ℕ). find_record n w.records) number ∙ p.found in
    let is : after_changes w cs ≡ applied w cs = after_some w cs (kill_some w pid cs leads) in
    subst (λ (v : World). IsKilled v pid) (sym (is ∙ ap (applied w) (p.is ∙ changes_are w 16 p.process)))
    (is_killed w (reached_is_consistent w reached) p.process there p.live pid number)

pub has_happened : (a : Asked) (w : World) (cs : List Change) → IsReached w → IsReadyAsked a → Changes w a cs → HasHappened a (line_of a w) (after_changes w cs)
has_happened (asked.Submit s) w cs reached ready leads = (
  submitted_number w s.inputs,
  refl,
  subst (λ (v : World). HasProcess v (submitted_number w s.inputs) s) (sym (after_some w cs (submission_some w s cs leads))) (has_process w s cs reached ready leads),
)
has_happened (asked.Pause pid) w cs reached ready leads =
    let p = pauses_of w pid cs leads in
    (refl, subst (λ (ds : List Change). HasMark (after_changes w ds) pid true) (sym p.is) (is_paused w pid p.process p.found p.live p.process.paused refl))
has_happened (asked.Play pid) w cs reached ready leads =
    let p = plays_of w pid cs leads in
    (refl, subst (λ (ds : List Change). HasMark (after_changes w ds) pid false) (sym p.is) (is_playing w pid p.process p.found p.live p.process.paused refl))
has_happened (asked.Kill pid) w cs reached ready leads = (refl, killed_then w pid cs reached leads)
