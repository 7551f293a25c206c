-- What the events that are asked for are.
use Rattle.std.proofs.Common.{◌≡◌, ℕ, ◌+◌, false, List, [], Option, Some, refl, sym, ap, ◌∙◌}
use Rattle.std.specs.Prelude.{◌≢◌}
use Rattle.wc_syntax.specs.declared.definition.Definition.{Definition}
use Rattle.wc_state.specs.declared.record.ProcessRecord.{ProcessRecord}
use Rattle.wc_world.specs.declared.change.Change.{Change}
use Rattle.wc_world.specs.World.{World}
use Rattle.wc_world.specs.Applied.{applied}
use Rattle.wc_world.specs.Records.{find_record, has_ended}
use Rattle.wc_machine.specs.Kills.{kill_changes}
use Rattle.wc_machine.specs.Machine.{Event, Leads, submit, turn, pause, play, kill, submits, turns, pauses, plays, kills, pause_changes, play_changes}
use Rattle.wc_machine.specs.Submissions.{Submits, submission}
use Rattle.wc_drill.proofs.Runner.Happening.{batch_more}
use Rattle.wc_drill.proofs.Soundness.NoChanges.{only_marks_change_nothing}
use Rattle.wc_plan.specs.declared.deed.Asked.{Asked}
use Rattle.wc_plan.specs.declared.deed.Asked.TheVariants as asked
use Rattle.wc_plan.specs.declared.submission.Submission.{Submission}
use Rattle.wc_act.specs.Events.{Changes, event_of, limits_of}
use Rattle.wc_act.specs.StoreDeeds.{greatest_limits}

-- ---- by the event

-- a live process has the number, and these are the changes that are made of it
pub record IsOfLive (w : World) (pid : ℕ) (changes : ProcessRecord → List Change) (cs : List Change) : Type 0 where
  pub process : ProcessRecord
  pub found : find_record pid w.records ≡ Some process
  pub live : has_ended process.state ≡ false
  pub is : cs ≡ changes process

abbrev pub ComesBy : World → Event → List Change → Type 0
ComesBy w (submit library caching name inputs) cs = Submits w library caching name inputs cs
ComesBy w (turn pid a now) cs = Unit {0}
ComesBy w (pause pid) cs = IsOfLive w pid pause_changes cs
ComesBy w (play pid) cs = IsOfLive w pid play_changes cs
ComesBy w (kill pid) cs = IsOfLive w pid (kill_changes w) cs

comes_by : (poll : ℕ) (w : World) (e : Event) (cs : List Change) → Leads poll w e cs → ComesBy w e cs
comes_by poll w e cs (submits library caching name inputs ds s) = s
comes_by poll w e cs (turns r a now ds found ready gives) = tt
comes_by poll w e cs (pauses r live) = record { process = r; found = live.found; live = live.live; is = refl }
comes_by poll w e cs (plays r live) = record { process = r; found = live.found; live = live.live; is = refl }
comes_by poll w e cs (kills r live) = record { process = r; found = live.found; live = live.live; is = refl }

pub submits_of : (w : World) (s : Submission) (cs : List Change) → Changes w (asked.Submit s) cs → Submits w s.library s.caching s.name s.inputs cs
submits_of w s cs leads = comes_by s.limits.poll_ms w (event_of (asked.Submit s)) cs leads

pub pauses_of : (w : World) (pid : ℕ) (cs : List Change) → Changes w (asked.Pause pid) cs → IsOfLive w pid pause_changes cs
pauses_of w pid cs leads = comes_by greatest_limits.poll_ms w (pause pid) cs leads

pub plays_of : (w : World) (pid : ℕ) (cs : List Change) → Changes w (asked.Play pid) cs → IsOfLive w pid play_changes cs
plays_of w pid cs leads = comes_by greatest_limits.poll_ms w (play pid) cs leads

pub kills_of : (w : World) (pid : ℕ) (cs : List Change) → Changes w (asked.Kill pid) cs → IsOfLive w pid (kill_changes w) cs
kills_of w pid cs leads = comes_by greatest_limits.poll_ms w (kill pid) cs leads

-- ---- one list of changes, which is one batch

some_definition : (d e : Definition) → Some d ≡ Some e → d ≡ e
some_definition d e h = cc

pub some_process : (o : Option ProcessRecord) (q r : ProcessRecord) → o ≡ Some q → o ≡ Some r → q ≡ r
some_process o q r h k = cc

one_submission : (w : World) (x : Submission) (cs ds : List Change) → Submits w x.library x.caching x.name x.inputs cs → Submits w x.library x.caching x.name x.inputs ds → cs ≡ ds
one_submission w x cs ds p q =
    let same : p.definition ≡ q.definition = some_definition p.definition q.definition (sym p.is_there ∙ q.is_there) in
    p.changes ∙ ap (submission w x.library x.caching x.name x.inputs) same ∙ sym q.changes

one_of_live : (w : World) (pid : ℕ) (changes : ProcessRecord → List Change) (cs ds : List Change) → IsOfLive w pid changes cs → IsOfLive w pid changes ds → cs ≡ ds
one_of_live w pid changes cs ds p q = p.is ∙ ap changes (some_process (find_record pid w.records) p.process q.process p.found q.found) ∙ sym q.is

pub one_change : (w : World) (a : Asked) (cs ds : List Change) → Changes w a cs → Changes w a ds → cs ≡ ds
one_change w (asked.Submit x) cs ds p q = one_submission w x cs ds (submits_of w x cs p) (submits_of w x ds q)
one_change w (asked.Pause pid) cs ds p q = one_of_live w pid pause_changes cs ds (pauses_of w pid cs p) (pauses_of w pid ds q)
one_change w (asked.Play pid) cs ds p q = one_of_live w pid play_changes cs ds (plays_of w pid cs p) (plays_of w pid ds q)
one_change w (asked.Kill pid) cs ds p q = one_of_live w pid (kill_changes w) cs ds (kills_of w pid cs p) (kills_of w pid ds q)

pub one_batch : (w : World) (a : Asked) (cs : List Change) → Changes w a cs → (applied w cs).batches ≡ w.batches + 1
one_batch w a cs leads = batch_more (limits_of a).poll_ms w (event_of a) cs leads

-- a submission and a kill have changes
pub submission_some : (w : World) (s : Submission) (cs : List Change) → Changes w (asked.Submit s) cs → cs ≢ []
submission_some w s cs leads = λ none. (only_marks_change_nothing s.limits.poll_ms w (event_of (asked.Submit s)) cs leads).0 none

pub kill_some : (w : World) (pid : ℕ) (cs : List Change) → Changes w (asked.Kill pid) cs → cs ≢ []
kill_some w pid cs leads = λ none. (only_marks_change_nothing greatest_limits.poll_ms w (kill pid) cs leads).0 none
