-- The directories stand after a turn whose task doesn't fail and whose program has ended; and with an obliging transport, where the directories
-- stand, each turn is such a one.
use Rattle.std.proofs.Common.{◌≡◌, ◌≢◌, ℕ, ◌+◌, Bool, true, false, List, [], ◌∷◌, Option, Some, None, inl, inr, refl, sym, ap, subst, ◌∙◌}
use Rattle.std.specs.Prelude.{All, IsSome}
use Rattle.std.proofs.lemmas.Bool.{cases_eq}
use Rattle.wc_value.specs.declared.process.JobResult.{JobResult}
use Rattle.wc_value.specs.declared.process.ProcessState.{ProcessState}
use Rattle.wc_value.specs.declared.process.ProcessState.TheVariants as state
use Rattle.wc_value.specs.declared.process.Request.{Request}
use Rattle.wc_syntax.specs.declared.definition.Definition.{Definition}
use Rattle.wc_syntax.specs.declared.definition.Definition.TheVariants as definition
use Rattle.wc_syntax.specs.declared.definition.Job.{Job}
use Rattle.wc_expression.specs.declared.outcome.Outcome.{Outcome}
use Rattle.wc_expression.specs.declared.outcome.Outcome.TheVariants.{Gives}
use Rattle.wc_semantics.specs.Outcomes.{excepted, calculated, parsed}
use Rattle.wc_semantics.specs.Requests.{request}
use Rattle.wc_state.specs.declared.record.Checkpoint.{Checkpoint}
use Rattle.wc_state.specs.declared.record.JobPart.{JobPart}
use Rattle.wc_state.specs.declared.record.Limits.{Limits}
use Rattle.wc_state.specs.declared.record.Part.{Part}
use Rattle.wc_state.specs.declared.record.Part.TheVariants as part
use Rattle.wc_state.specs.declared.record.ProcessKind.{ProcessKind}
use Rattle.wc_state.specs.declared.record.ProcessRecord.{ProcessRecord}
use Rattle.wc_state.specs.declared.record.Task.{Task}
use Rattle.wc_state.specs.declared.record.Task.TheVariants as task
use Rattle.wc_records.specs.declared.change.SetProcess.{SetProcess}
use Rattle.wc_transport.specs.Obliging.{HasRow, IsObliged, MayTake}
use Rattle.wc_transport.specs.Outside.{Holds, Reply, Stays, WhereTold}
use Rattle.wc_transport.specs.Outside as reply
use Rattle.wc_transport.specs.declared.transport.Transport as transport
use Rattle.wc_world.specs.declared.change.Change.{Change}
use Rattle.wc_world.specs.Applied.{applied, begun, set}
use Rattle.wc_world.specs.Consistent.{Stands}
use Rattle.wc_world.specs.Fits.{is_fresh, part_fits}
use Rattle.wc_world.specs.Records.{find_record, has_ended}
use Rattle.wc_world.specs.World.{World}
use Rattle.wc_world.proofs.FoundRecords.{found_holds}
use Rattle.wc_world.proofs.ReachedLists.{found_node}
use Rattle.wc_machine.specs.declared.answer.TaskAnswer.{TaskAnswer}
use Rattle.wc_machine.specs.declared.answer.TaskAnswer.TheVariants as answer
use Rattle.wc_machine.specs.Advances.{advance}
use Rattle.wc_machine.specs.Questions.{Need, need, need_at, nothing, performs}
use Rattle.wc_machine.specs.Continues.{Continues}
use Rattle.wc_machine.specs.Ends as ending
use Rattle.wc_machine.specs.Recorded.{its_definition, recorded_inputs, recorded_request, request_by}
use Rattle.wc_machine.specs.Sound.{IsSound}
use Rattle.wc_machine.specs.Tasks.{Moved, after}
use Rattle.wc_machine.specs.Turns.{StandsAt, TurnGives, first_task, job_set, calculates, clones, begins, excepts, gives_up, moves, parses, advances, binds}
use Rattle.wc_soundness.proofs.AtOne.{found_one, found_other}
use Rattle.wc_soundness.proofs.FaultingJobs.{waiting_jobs_ask}
use Rattle.wc_soundness.proofs.LaterTables.{record_kept}
use Rattle.wc_soundness.proofs.Tasks.{job_waits}
use Rattle.wc_runner.specs.Asked.{AreOfProcesses, MayHold, PlacesFor}
use Rattle.wc_runner.specs.Outside.{AnswersNeed, HoldsWhenDone, IsGiven, Outside, answer_of, in_turn}
use Rattle.wc_runner.proofs.Sets.{AllSuit, advanced_suits, changes_leave, ends_suit}
use Rattle.wc_cost.specs.Turns.{IsCalm}
use Rattle.wc_ends.specs.Enough.{PartStands, ProcessStands, TaskStands}
use Rattle.wc_ends.proofs.Requests.{request_same}

-- ---- parts that stay

-- A part is as it was where it is a job's or that of a process that is created.
abbrev KeepsPart : Part → Part → Type 0
KeepsPart old part.Fresh = old ≡ part.Fresh
KeepsPart old (part.Chain c) = Unit {0}
KeepsPart old (part.Job j) = old ≡ part.Job j
KeepsPart old part.Over = Unit {0}

abbrev IsNoJob : Part → Type 0
IsNoJob part.Fresh = Unit {0}
IsNoJob (part.Chain c) = Unit {0}
IsNoJob (part.Job j) = ⊥
IsNoJob part.Over = Unit {0}

-- so is that of each process; one that is new is no job that waits
abbrev KeepsProcess : Option ProcessRecord → Option ProcessRecord → Type 0
KeepsProcess None None = Unit {0}
KeepsProcess None (Some new) = IsNoJob new.part
KeepsProcess (Some old) None = ⊥
KeepsProcess (Some old) (Some new) = KeepsPart old.part new.part

-- a chain's part, or that of a process that is over
abbrev IsUntasked : Part → Type 0
IsUntasked part.Fresh = ⊥
IsUntasked (part.Chain c) = Unit {0}
IsUntasked (part.Job j) = ⊥
IsUntasked part.Over = Unit {0}

abbrev SetsNoTask : SetProcess → Type 0
SetsNoTask s = IsUntasked s.part

part_itself : (p : Part) → KeepsPart p p
part_itself part.Fresh = refl
part_itself (part.Chain c) = tt
part_itself (part.Job j) = refl
part_itself part.Over = tt

parts_on : (a b c : Part) → KeepsPart a b → KeepsPart b c → KeepsPart a c
parts_on a b part.Fresh h k = subst (KeepsPart a) k h
parts_on a b (part.Chain c) h k = tt
parts_on a b (part.Job j) h k = subst (KeepsPart a) k h
parts_on a b part.Over h k = tt

no_job_on : (b c : Part) → IsNoJob b → KeepsPart b c → IsNoJob c
no_job_on b part.Fresh h k = tt
no_job_on b (part.Chain c) h k = tt
no_job_on b (part.Job j) h k = subst IsNoJob k h
no_job_on b part.Over h k = tt

itself : (o : Option ProcessRecord) → KeepsProcess o o
itself None = tt
itself (Some r) = part_itself r.part

keeps_on : (a b c : Option ProcessRecord) → KeepsProcess a b → KeepsProcess b c → KeepsProcess a c
keeps_on None None c h k = k
keeps_on None (Some s) None h k = absurd k
keeps_on None (Some s) (Some t) h k = no_job_on s.part t.part h k
keeps_on (Some r) None c h k = absurd h
keeps_on (Some r) (Some s) None h k = k
keeps_on (Some r) (Some s) (Some t) h k = parts_on r.part s.part t.part h k

untasked_keeps : (old new : Part) → IsUntasked new → KeepsPart old new
untasked_keeps old part.Fresh h = absurd h
untasked_keeps old (part.Chain c) h = tt
untasked_keeps old (part.Job j) h = absurd h
untasked_keeps old part.Over h = tt

-- so changes leave each process that set no task
parts_stay : (w : World) (cs : List Change) → AllSuit SetsNoTask cs → (pid : ℕ) → KeepsProcess (find_record pid w.records) (find_record pid (applied w cs).records)
parts_stay w cs suits pid =
    changes_leave SetsNoTask KeepsProcess itself keeps_on (λ number n. tt) (λ b s h r. untasked_keeps r.part s.part h) (λ k r. part_itself r.part) (w.batches + 1) (begun w) cs suits pid

-- ---- what an answer tells of its reply

reply_failed : (x : Reply) → answer_of x ≡ Some answer.Failed → x ≡ reply.Failed
reply_failed reply.Failed h = refl
reply_failed reply.OutOfMemory h = absurd (cc h)
reply_failed reply.Running h = absurd (cc h)
reply_failed reply.Done h = absurd (cc h)
reply_failed (reply.Brought result) h = absurd (cc h)

reply_running : (x : Reply) → answer_of x ≡ Some answer.Running → x ≡ reply.Running
reply_running reply.Failed h = absurd (cc h)
reply_running reply.OutOfMemory h = absurd (cc h)
reply_running reply.Running h = refl
reply_running reply.Done h = absurd (cc h)
reply_running (reply.Brought result) h = absurd (cc h)

reply_done : (x : Reply) → answer_of x ≡ Some answer.Done → x ≡ reply.Done
reply_done reply.Failed h = absurd (cc h)
reply_done reply.OutOfMemory h = absurd (cc h)
reply_done reply.Running h = absurd (cc h)
reply_done reply.Done h = refl
reply_done (reply.Brought result) h = absurd (cc h)

-- ---- needs

fresh_is : (k : ProcessKind) (s : ProcessState) (p : Part) → s ≡ state.Created → part_fits k s p ≡ true → p ≡ part.Fresh
fresh_is k s p is fits = at p (ap (λ (x : ProcessState). part_fits k x p) (sym is) ∙ fits)
  where
    at : (x : Part) → is_fresh x ≡ true → x ≡ part.Fresh
    at part.Fresh h = refl
    at (part.Chain c) h = absurd (cc h)
    at (part.Job j) h = absurd (cc h)
    at part.Over h = absurd (cc h)

stands_need : (s : ProcessState) (p : Part) (c : Checkpoint) (o : Option (Outcome Request)) → StandsAt s p c → need_at s p o ≡ nothing
stands_need state.Created p c o h = refl
stands_need state.Running p c o h = refl
stands_need state.Waiting part.Fresh c o h = absurd h
stands_need state.Waiting (part.Chain d) c o h = absurd h
stands_need state.Waiting (part.Job j) c o h = absurd h
stands_need state.Waiting part.Over c o h = absurd h
stands_need (state.Finished n) p c o h = refl
stands_need (state.Excepted x) p c o h = refl
stands_need state.Killed p c o h = refl

-- ---- tasks

abbrev at_once : Task → Moved
at_once t = record { part = record { task = t; fails = 0; due = 0 }; paused = false }

moved_to : (m : Moved) (t : Task) → Some (at_once t) ≡ Some m → t ≡ m.part.task
moved_to m t e = let same : at_once t ≡ m = cc in ap (λ (x : Moved). x.part.task) same

-- ---- one turn

module _ (placed placed_new : ℕ → Option Request) (finished finished_new : ℕ → Type 0) (stays : Stays finished finished_new) where
  take_on : (dir : ℕ) (q : Request) → placed_new dir ≡ placed dir → MayTake dir q placed → MayTake dir q placed_new
  take_on dir q same may held is = may held (sym same ∙ is)

  task_on : (t : Task) (dir : ℕ) (q : Request) → placed_new dir ≡ placed dir → TaskStands placed finished t dir q → TaskStands placed_new finished_new t dir q
  task_on task.Upload dir q same h = take_on dir q same h
  task_on task.Submit dir q same h = same ∙ h
  task_on task.Update dir q same h = (same ∙ h.0, stays dir h.1)
  task_on task.Retrieve dir q same h = (same ∙ h.0, stays dir h.1)

  part_on : (p : Part) (dir : ℕ) (q : Request) → placed_new dir ≡ placed dir → PartStands placed finished p dir q → PartStands placed_new finished_new p dir q
  part_on part.Fresh dir q same h = take_on dir q same h
  part_on (part.Chain c) dir q same h = tt
  part_on (part.Job j) dir q same h = task_on j.task dir q same h
  part_on part.Over dir q same h = tt

  -- what the next task finds, after an answer that is done
  next_stands : (dir : ℕ) (q : Request) (p : JobPart) (now poll : ℕ) (a : TaskAnswer) (t : Task) (m : Moved) → after p a now poll t ≡ Some m → IsCalm a → TaskStands placed finished t dir q
      → MayHold t q (placed dir) (placed_new dir) → (a ≡ answer.Done → t ≡ task.Upload → placed_new dir ≡ Some q) → (a ≡ answer.Done → t ≡ task.Submit → finished_new dir)
      → TaskStands placed_new finished_new m.part.task dir q
  next_stands dir q p now poll answer.Failed t m e calm h own up ends = absurd calm
  next_stands dir q p now poll answer.Running t m e calm h own up ends = absurd calm
  next_stands dir q p now poll answer.Nothing t m e calm h own up ends = absurd (cc e)
  next_stands dir q p now poll (answer.Result x) t m e calm h own up ends = absurd (cc e)
  next_stands dir q p now poll answer.Done task.Retrieve m e calm h own up ends = absurd (cc e)
  next_stands dir q p now poll answer.Done task.Upload m e calm h own up ends =
      let is : task.Submit ≡ m.part.task = moved_to m task.Submit e in subst (λ (t : Task). TaskStands placed_new finished_new t dir q) is (up refl refl)
  next_stands dir q p now poll answer.Done task.Submit m e calm h own up ends =
      let is : task.Update ≡ m.part.task = moved_to m task.Update e in subst (λ (t : Task). TaskStands placed_new finished_new t dir q) is (own ∙ h, ends refl refl)
  next_stands dir q p now poll answer.Done task.Update m e calm h own up ends =
      let is : task.Retrieve ≡ m.part.task = moved_to m task.Retrieve e in subst (λ (t : Task). TaskStands placed_new finished_new t dir q) is (own ∙ h.0, stays dir h.1)

  -- a call for a directory that stands so doesn't fail, and an update finds that the program has ended
  not_failed : (table : Option (List (Request × JobResult))) (t : Task) (dir : ℕ) (q : Request) (x : Reply) → TaskStands placed finished t dir q
      → IsObliged table (Some placed) finished finished_new dir t q x → x ≡ reply.Failed → ⊥
  not_failed table task.Upload dir q x h o = o h
  not_failed table task.Submit dir q x h o = o.0 h
  not_failed table task.Update dir q x h o = (o h.0 h.1).0
  not_failed table task.Retrieve dir q x h o = o h.0 h.1

  module _ (v w : World) (s : IsSound v) (c : Continues v w) (of : AreOfProcesses (Some placed) v) (jobs : All (ProcessStands placed finished v) v.records) where
    -- what has not ended had not
    was_live : (x t : ProcessRecord) → find_record x.node v.records ≡ Some x → find_record x.node w.records ≡ Some t → has_ended t.state ≡ false → has_ended x.state ≡ false
    was_live x t found there live = by (has_ended x.state) refl
      where
        by : (b : Bool) → has_ended x.state ≡ b → b ≡ false
        by false e = refl
        by true e =
            let again : Some x ≡ Some t = sym (record_kept v w s c x found e) ∙ there in
            let same : x ≡ t = cc in
            let both : true ≡ false = sym e ∙ ap (λ (y : ProcessRecord). has_ended y.state) same ∙ live in
            absurd (cc both)

    -- what a process found before it finds still
    old_stands : (t : ProcessRecord) → find_record t.node w.records ≡ Some t → has_ended t.state ≡ false → (q : Request) → recorded_request w t ≡ Some (Gives q)
        → (x : ProcessRecord) → find_record t.node v.records ≡ Some x → PartStands placed finished x.part t.node q
    old_stands t there live q asked x is =
        let number : x.node ≡ t.node = found_node t.node v.records x is in
        let found : find_record x.node v.records ≡ Some x = ap (λ (n : ℕ). find_record n v.records) number ∙ is in
        let now : find_record x.node w.records ≡ Some t = ap (λ (n : ℕ). find_record n w.records) number ∙ there in
        subst (λ (n : ℕ). PartStands placed finished x.part n q) number
        (found_holds (ProcessStands placed finished v) x.node v.records x jobs found (was_live x t found now live) q (sym (request_same v w s c x t found now) ∙ asked))

    -- ---- where no task is set

    module _ (cs : List Change) (applied_is : w ≡ applied v cs) (suits : AllSuit SetsNoTask cs) (same : (dir : ℕ) → placed_new dir ≡ placed dir) where
      keep_jobs : (t : ProcessRecord) → find_record t.node w.records ≡ Some t → ProcessStands placed_new finished_new w t
      keep_jobs t there live q asked = at (find_record t.node v.records) refl kept
        where
          kept : KeepsProcess (find_record t.node v.records) (Some t)
          kept = subst (KeepsProcess (find_record t.node v.records)) there
              (subst (λ (x : World). KeepsProcess (find_record t.node v.records) (find_record t.node x.records)) (sym applied_is) (parts_stay v cs suits t.node))

          -- a new process has no directory yet
          new_stands : find_record t.node v.records ≡ None → (p : Part) → IsNoJob p → PartStands placed_new finished_new p t.node q
          new_stands none part.Fresh h = λ held is.
              let some : IsSome (find_record t.node v.records) = of t.node (subst IsSome (sym (sym (same t.node) ∙ is)) refl) in
              absurd (let nothing_there : IsSome {T = ProcessRecord} None = subst (λ (y : Option ProcessRecord). IsSome y) none some in cc nothing_there)
          new_stands none (part.Chain k) h = tt
          new_stands none (part.Job j) h = absurd h
          new_stands none part.Over h = tt

          from : (old new : Part) → KeepsPart old new → PartStands placed finished old t.node q → PartStands placed_new finished_new new t.node q
          from old part.Fresh k h = part_on part.Fresh t.node q (same t.node) (subst (λ (p : Part). PartStands placed finished p t.node q) k h)
          from old (part.Chain d) k h = tt
          from old (part.Job j) k h = part_on (part.Job j) t.node q (same t.node) (subst (λ (p : Part). PartStands placed finished p t.node q) k h)
          from old part.Over k h = tt

          at : (o : Option ProcessRecord) → find_record t.node v.records ≡ o → KeepsProcess o (Some t) → PartStands placed_new finished_new t.part t.node q
          at None is k = new_stands is t.part k
          at (Some x) is k = from x.part t.part k (old_stands t there live q asked x is)

    -- ---- where a job's task is set

    module _ (r : ProcessRecord) (found : find_record r.node v.records ≡ Some r) (m : JobPart) (paused : Bool) (applied_is : w ≡ applied v (job_set r m paused ∷ []))
        (own : (q : Request) → recorded_request v r ≡ Some (Gives q) → TaskStands placed_new finished_new m.task r.node q)
        (others : (dir : ℕ) → r.node ≢ dir → placed_new dir ≡ placed dir) where
      abbrev sets : ProcessRecord → ProcessRecord
      sets = set (v.batches + 1) (record { pid = r.node; state = state.Waiting; paused = paused; cached_from = 0; fuel = r.fuel; code = None; part = part.Job m })

      set_jobs : (t : ProcessRecord) → find_record t.node w.records ≡ Some t → ProcessStands placed_new finished_new w t
      set_jobs t there live q asked = elim (cases_eq r.node t.node) [
        | inl same ↦
            let now : find_record r.node w.records ≡ Some (sets r) = ap (λ (x : World). find_record r.node x.records) applied_is ∙ found_one r.node sets (λ x. refl) v.records r refl found in
            let here : find_record r.node w.records ≡ Some t = ap (λ (n : ℕ). find_record n w.records) same ∙ there in
            let again : Some (sets r) ≡ Some t = sym now ∙ here in
            let it : sets r ≡ t = cc in
            subst (λ (x : ProcessRecord). PartStands placed_new finished_new x.part x.node q) it (own q (sym (request_same v w s c r t found here) ∙ asked))
        | inr ne ↦
            let before : find_record t.node v.records ≡ Some t =
            sym (found_other r.node sets (λ x. refl) v.records t.node ne) ∙ sym (ap (λ (x : World). find_record t.node x.records) applied_is) ∙ there in
            part_on t.part t.node q (others t.node ne) (old_stands t there live q asked t before)
      ]

-- ---- the turn of a process, with the answer of an obliging transport

module _ {T : Type 0} (g : transport.Ghosts T) (limits : Limits) (now : ℕ) (old new : T) (rows : List (Request × JobResult)) (placed placed_new : ℕ → Option Request)
    (table : g.table old ≡ Some rows) (told : g.placed old ≡ Some placed) (told_new : g.placed new ≡ Some placed_new) (stays : Stays (g.finished old) (g.finished new))
    (obliging : g.obliging old) (v w : World) (s : IsSound v) (c : Continues v w) (of : AreOfProcesses (Some placed) v)
    (jobs : All (ProcessStands placed (g.finished old) v) v.records) (r : ProcessRecord) (found : find_record r.node v.records ≡ Some r)
    (places : PlacesFor r.node (need v r) placed placed_new) where
  abbrev o : Outside
  o = in_turn g limits now old new

  abbrev Answered : TaskAnswer → Type 0
  Answered a = AnswersNeed o r.node (need v r) a

  abbrev finished : ℕ → Type 0
  finished = g.finished old

  abbrev finished_new : ℕ → Type 0
  finished_new = g.finished new

  stands : Stands v r
  stands = found_holds (Stands v) r.node v.records r s.consistent.records found

  -- nothing is needed: each directory is as it was
  nothing_places : need v r ≡ nothing → (dir : ℕ) → placed_new dir ≡ placed dir
  nothing_places e = subst (λ (n : Need). PlacesFor r.node n placed placed_new) e places

  created_need : r.state ≡ state.Created → need v r ≡ nothing
  created_need is = ap (λ (x : ProcessState). need_at x r.part (recorded_request v r)) is

  -- ---- a job at a task

  module _ (j : Job) (p : JobPart) (q : Request) (d : its_definition v r ≡ Some (definition.Job j)) (at : r.part ≡ part.Job p) (asked : request j (recorded_inputs v r.node) ≡ Gives q) where
    waiting : r.state ≡ state.Waiting
    waiting = (job_waits r.kind r.state p p (ap (part_fits r.kind r.state) (sym at) ∙ stands.part)).0

    asks : recorded_request v r ≡ Some (Gives q)
    asks = ap (λ (x : Option Definition). request_by x (recorded_inputs v r.node)) d ∙ ap (λ (x : Outcome Request). Some x) asked

    needs : need v r ≡ performs p.task q
    needs = λ i. need_at (waiting i) (at i) (asks i)

    directory : TaskStands placed finished p.task r.node q
    directory =
        subst (λ (x : Part). PartStands placed finished x r.node q) at
        (found_holds (ProcessStands placed finished v) r.node v.records r jobs found (ap has_ended waiting) q asks)

    given : (a : TaskAnswer) → Answered a → IsGiven o r.node p.task q a
    given a h = subst (λ (n : Need). AnswersNeed o r.node n a) needs h

    obliged : (a : TaskAnswer) (h : Answered a) → IsObliged (Some rows) (Some placed) finished finished_new r.node p.task q (given a h).reply
    obliged a h =
        subst (λ (x : Option (List (Request × JobResult))). IsObliged x (Some placed) finished finished_new r.node p.task q (given a h).reply) table
        (subst (λ (x : Option (ℕ → Option Request)). IsObliged (g.table old) x finished finished_new r.node p.task q (given a h).reply) told ((given a h).gave.obliged obliging))

    calm_moves : (poll at_moment : ℕ) (a : TaskAnswer) → Answered a → (t : Task) → p.task ≡ t → (m : Moved) → after p a at_moment poll t ≡ Some m → IsCalm a
    calm_moves poll at_moment answer.Nothing h t is m e = tt
    calm_moves poll at_moment answer.Done h t is m e = tt
    calm_moves poll at_moment (answer.Result x) h t is m e = tt
    calm_moves poll at_moment answer.Failed h t is m e =
        not_failed placed placed_new finished finished_new stays (Some rows) p.task r.node q (given answer.Failed h).reply directory (obliged answer.Failed h)
        (reply_failed (given answer.Failed h).reply (given answer.Failed h).answered)
    calm_moves poll at_moment answer.Running h task.Upload is m e = absurd (cc e)
    calm_moves poll at_moment answer.Running h task.Submit is m e = absurd (cc e)
    calm_moves poll at_moment answer.Running h task.Retrieve is m e = absurd (cc e)
    calm_moves poll at_moment answer.Running h task.Update is m e =
        let here : TaskStands placed finished task.Update r.node q = subst (λ (t : Task). TaskStands placed finished t r.node q) is directory in
        let promised : IsObliged (Some rows) (Some placed) finished finished_new r.node task.Update q (given answer.Running h).reply =
        subst (λ (t : Task). IsObliged (Some rows) (Some placed) finished finished_new r.node t q (given answer.Running h).reply) is (obliged answer.Running h) in
        (promised here.0 here.1).1 (reply_running (given answer.Running h).reply (given answer.Running h).answered)

    -- what it places, and what has ended then
    own_place : MayHold p.task q (placed r.node) (placed_new r.node)
    own_place = (subst (λ (n : Need). PlacesFor r.node n placed placed_new) needs places).own

    other_places : (dir : ℕ) → r.node ≢ dir → placed_new dir ≡ placed dir
    other_places dir ne = (subst (λ (n : Need). PlacesFor r.node n placed placed_new) needs places).others dir (λ e. ne (sym e))

    uploaded : (a : TaskAnswer) → Answered a → a ≡ answer.Done → p.task ≡ task.Upload → placed_new r.node ≡ Some q
    uploaded a h is at_upload =
        let one = given a h in
        let done : one.reply ≡ reply.Done = reply_done one.reply (one.answered ∙ ap (λ (x : TaskAnswer). Some x) is) in
        let holds : reply.Done ≡ reply.Done → WhereTold (Holds r.node q) (g.placed new) =
        subst (λ (x : Reply). x ≡ reply.Done → WhereTold (Holds r.node q) (g.placed new)) done
        (subst (λ (t : Task). HoldsWhenDone t r.node q one.reply (g.placed new)) at_upload one.gave.holds) in
        subst (WhereTold (Holds r.node q)) told_new (holds refl)

    submitted_ends : HasRow q rows → (a : TaskAnswer) → Answered a → a ≡ answer.Done → p.task ≡ task.Submit → finished_new r.node
    submitted_ends row a h is at_submit =
        let one = given a h in
        let done : one.reply ≡ reply.Done = reply_done one.reply (one.answered ∙ ap (λ (x : TaskAnswer). Some x) is) in
        (subst (λ (t : Task). IsObliged (Some rows) (Some placed) finished finished_new r.node t q one.reply) at_submit (obliged a h)).1 row done

    -- nothing is placed at the last task
    retrieve_places : p.task ≡ task.Retrieve → (dir : ℕ) → placed_new dir ≡ placed dir
    retrieve_places is dir = elim (cases_eq r.node dir) [
      | inl same ↦
          let own : placed_new r.node ≡ placed r.node = subst (λ (t : Task). MayHold t q (placed r.node) (placed_new r.node)) is own_place in
          subst (λ (n : ℕ). placed_new n ≡ placed n) same own
      | inr ne ↦ other_places dir ne
    ]

    moved_stands : HasRow q rows → (poll at_moment : ℕ) (a : TaskAnswer) (m : Moved) → Answered a → after p a at_moment poll p.task ≡ Some m → IsCalm a
        → TaskStands placed_new finished_new m.part.task r.node q
    moved_stands row poll at_moment a m h e calm =
        next_stands placed placed_new finished finished_new stays r.node q p at_moment poll a p.task m e calm directory own_place (uploaded a h) (submitted_ends row a h)

    one_request : (x : Request) → recorded_request v r ≡ Some (Gives x) → q ≡ x
    one_request x h = let both : Some (Gives q) ≡ Some (Gives x) = sym asks ∙ h in cc

  -- ---- each turn

  pub turn_calm : (poll at_moment : ℕ) (a : TaskAnswer) (cs : List Change) → TurnGives poll at_moment v r a cs → Answered a → IsCalm a
  turn_calm poll at_moment a cs (calculates f d is takes) h = tt
  turn_calm poll at_moment a cs (clones q calc is takes there) h = tt
  turn_calm poll at_moment a cs (begins j q d is takes asked) h = tt
  turn_calm poll at_moment a cs (excepts j reason d is takes asked) h = tt
  turn_calm poll at_moment a cs (gives_up j p reason d at asked) h = tt
  turn_calm poll at_moment a cs (moves j p q b m d at asked next) h = calm_moves j p q d at asked poll at_moment b h p.task refl m next
  turn_calm poll at_moment a cs (parses j p q result d at asked is) h = tt
  turn_calm poll at_moment a cs (advances k library x env d l at e) h = tt
  turn_calm poll at_moment a cs (binds k x d is at) h = tt

  abbrev StandsThen : Type 0
  StandsThen = (t : ProcessRecord) → find_record t.node w.records ≡ Some t → ProcessStands placed_new finished_new w t

  keeps_them : (cs : List Change) → w ≡ applied v cs → AllSuit SetsNoTask cs → ((dir : ℕ) → placed_new dir ≡ placed dir) → StandsThen
  keeps_them cs is suits same = keep_jobs placed placed_new finished finished_new stays v w s c of jobs cs is suits same

  pub turn_stands : ((p : JobPart) (q : Request) → r.part ≡ part.Job p → recorded_request v r ≡ Some (Gives q) → HasRow q rows) → (poll at_moment : ℕ) (a : TaskAnswer) (cs : List Change)
      → TurnGives poll at_moment v r a cs → Answered a → w ≡ applied v cs → StandsThen
  turn_stands row poll at_moment a cs (calculates f d is takes) h then_is =
      keeps_them cs then_is (ends_suit SetsNoTask v r (calculated f (recorded_inputs v r.node)) None None tt) (nothing_places (created_need is))
  turn_stands row poll at_moment a cs (clones q calc is takes there) h then_is =
      keeps_them cs then_is (ends_suit SetsNoTask v r (ending.come_to v q) (Some q.node) None tt) (nothing_places (created_need is))
  turn_stands row poll at_moment a cs (begins j q d is takes asked) h then_is =
      let same : (dir : ℕ) → placed_new dir ≡ placed dir = nothing_places (created_need is) in
      let fresh : r.part ≡ part.Fresh = fresh_is r.kind r.state r.part is stands.part in
      set_jobs placed placed_new finished finished_new stays v w s c of jobs r found first_task false then_is
      (λ x asks_x. take_on placed placed_new finished finished_new stays r.node x (same r.node)
      (subst (λ (y : Part). PartStands placed finished y r.node x) fresh
      (found_holds (ProcessStands placed finished v) r.node v.records r jobs found (ap has_ended is) x asks_x)))
      (λ dir ne. same dir)
  turn_stands row poll at_moment a cs (excepts j reason d is takes asked) h then_is =
      keeps_them cs then_is (ends_suit SetsNoTask v r (excepted reason []) None None tt) (nothing_places (created_need is))
  turn_stands row poll at_moment a cs (gives_up j p reason d at asked) h then_is = absurd (waiting_jobs_ask v r j p reason s found d at asked)
  turn_stands row poll at_moment a cs (moves j p q b m d at asked next) h then_is =
      set_jobs placed placed_new finished finished_new stays v w s c of jobs r found m.part m.paused then_is
      (λ x asks_x. subst (λ (y : Request). TaskStands placed_new finished_new m.part.task r.node y) (one_request j p q d at asked x asks_x)
      (moved_stands j p q d at asked (row p q at (asks j p q d at asked)) poll at_moment b m h next (calm_moves j p q d at asked poll at_moment b h p.task refl m next)))
      (other_places j p q d at asked)
  turn_stands row poll at_moment a cs (parses j p q result d at asked is) h then_is =
      keeps_them cs then_is (ends_suit SetsNoTask v r (parsed j (recorded_inputs v r.node) result) None (Some result.code) tt) (retrieve_places j p q d at asked is)
  turn_stands row poll at_moment a cs (advances k library x env d l at e) h then_is =
      keeps_them cs then_is (advanced_suits SetsNoTask v r (λ z fuel y. tt) (λ z fuel. tt) k.head.outputs (advance library k r.depth env x))
      (nothing_places (stands_need r.state r.part x (recorded_request v r) at))
  turn_stands row poll at_moment a cs (binds k x d is at) h then_is =
      keeps_them cs then_is (tt, tt) (nothing_places (λ i. need_at (is i) (at i) (recorded_request v r)))
