-- The turn of a function or a job lowers what is left.
use Rattle.std.proofs.Common.{◌≡◌, ◌≢◌, ℕ, zero, suc, ◌+◌, ◌<◌, ℤ, Bool, true, false, List, [], ◌∷◌, Option, Some, None, refl, sym, ap, subst, ◌∙◌, arith}
use Rattle.std.specs.Prelude.{◌==◌, option_map, option_and_then}
use Rattle.std.proofs.lemmas.Bool.{cond-false, ne_eqb}
use Rattle.wc_value.specs.declared.process.JobResult.{JobResult}
use Rattle.wc_value.specs.declared.process.ProcessState.{ProcessState}
use Rattle.wc_value.specs.declared.process.ProcessState.TheVariants as state
use Rattle.wc_value.specs.declared.process.Request.{Request}
use Rattle.wc_syntax.specs.Findings.{definition_named}
use Rattle.wc_syntax.specs.declared.definition.Definition.{Definition}
use Rattle.wc_syntax.specs.declared.definition.Definition.TheVariants as definition
use Rattle.wc_syntax.specs.declared.definition.Job.{Job}
use Rattle.wc_syntax.specs.declared.definition.Port.{Port}
use Rattle.wc_graph.specs.Rules.{node_of}
use Rattle.wc_expression.specs.declared.outcome.Outcome.{Outcome}
use Rattle.wc_expression.specs.declared.outcome.Outcome.TheVariants.{Gives, Faults}
use Rattle.wc_semantics.specs.Meaning.{is_killed}
use Rattle.wc_semantics.specs.Outcomes.{excepted, calculated, parsed, retrieved}
use Rattle.wc_semantics.specs.Requests.{request}
use Rattle.wc_semantics.specs.Rules.{Values}
use Rattle.wc_semantics.specs.Tables.{Kills}
use Rattle.wc_semantics.specs.declared.outcomes.Parsed.{Parsed}
use Rattle.wc_state.specs.declared.record.JobPart.{JobPart}
use Rattle.wc_state.specs.declared.record.Part.{Part}
use Rattle.wc_state.specs.declared.record.Part.TheVariants as part
use Rattle.wc_state.specs.declared.record.ProcessKind.{ProcessKind}
use Rattle.wc_state.specs.declared.record.ProcessKind.TheVariants as kind
use Rattle.wc_state.specs.declared.record.ProcessRecord.{ProcessRecord}
use Rattle.wc_state.specs.declared.record.Task.{Task}
use Rattle.wc_state.specs.declared.record.Task.TheVariants as task
use Rattle.wc_world.specs.declared.change.Change.{Change}
use Rattle.wc_world.specs.World.{World}
use Rattle.wc_world.specs.Applied.{applied, set}
use Rattle.wc_world.specs.Consistent.{Stands}
use Rattle.wc_world.specs.Fits.{is_of_kind, part_fits}
use Rattle.wc_world.specs.Records.{find_record, has_ended, is_calculation, library_at, process_node}
use Rattle.wc_world.proofs.FoundRecords.{found_holds}
use Rattle.wc_machine.specs.declared.answer.TaskAnswer.{TaskAnswer}
use Rattle.wc_machine.specs.declared.answer.TaskAnswer.TheVariants as answer
use Rattle.wc_machine.specs.Ends.{TakesSource, come_to, ends}
use Rattle.wc_machine.specs.Paths.{kills}
use Rattle.wc_machine.specs.Recorded.{its_definition, recorded_inputs, recorded_request}
use Rattle.wc_machine.specs.Rest.{levels_of}
use Rattle.wc_machine.specs.Sound.{IsFitting, IsSound}
use Rattle.wc_machine.specs.Sources.{IsLowestSource, IsSourceFor}
use Rattle.wc_machine.specs.Tasks.{Moved, after}
use Rattle.wc_machine.specs.Turns.{TurnGives, calculates, clones, begins, excepts, gives_up, moves, parses, advances, binds, first_task, job_set}
use Rattle.wc_machine.proofs.AcceptedEnds.{process_is_node}
use Rattle.wc_machine.proofs.CalculatedOutputs.{calculated_set}
use Rattle.wc_machine.proofs.EndedWorlds.{found_end}
use Rattle.wc_machine.proofs.Endings.{applied_ends, end_record, ended_world}
use Rattle.wc_machine.proofs.FunctionEnds.{calculated_alive, calculated_ends, concluded_alive}
use Rattle.wc_turn_laws.specs.CalculationLaws.{MayStart}
use Rattle.wc_soundness.specs.Sets.{moved, moved_world}
use Rattle.wc_soundness.specs.Touches.{MayBeTouched, Touches}
use Rattle.wc_soundness.proofs.CachingTurns.{function_ends}
use Rattle.wc_soundness.proofs.Ended.{MayEnd, fresh_part, touches}
use Rattle.wc_soundness.proofs.FaultingJobs.{waiting_jobs_ask}
use Rattle.wc_soundness.proofs.JobEnds.{live_end_touches}
use Rattle.wc_soundness.proofs.KilledStanding.{library_of}
use Rattle.wc_soundness.proofs.Moves.{moved_touches}
use Rattle.wc_soundness.proofs.Outputs.{nothing_good, outputs_are_inputs}
use Rattle.wc_soundness.proofs.Tasks.{job_waits, request_is}
use Rattle.wc_cost.specs.Cost.{Costing, cost, job_cost, price, price_by, price_of, tolls}
use Rattle.wc_cost.specs.Left.{FreshOwes, IsLeft, JobOwes, PartOwes, by_request, tasks_left}
use Rattle.wc_cost.specs.Turns.{CalculationTurnsLower, IsCalm, LeavesLess}
use Rattle.wc_cost.proofs.OneLowered.{lowered, owed_in}
use Rattle.wc_cost.proofs.Owing.{alive, part_positive}

-- ---- states and answers

pub not_killed : (s : ProcessState) → s ≢ state.Killed → is_killed s ≡ false
not_killed state.Created h = refl
not_killed state.Running h = refl
not_killed state.Waiting h = refl
not_killed (state.Finished n) h = refl
not_killed (state.Excepted r) h = refl
not_killed state.Killed h = absurd (h refl)

goes_to_less : (t u : Task) (due : ℕ) (m : Moved) → tasks_left t ≡ suc (tasks_left u)
    → Some (record { part = record { task = u; fails = 0; due = due }; paused = false }) ≡ Some m → tasks_left t ≡ suc (tasks_left m.part.task)
goes_to_less t u due m e h =
    let to : Moved = record { part = record { task = u; fails = 0; due = due }; paused = false } in
    let same : to ≡ m = cc in
    e ∙ ap (λ (x : Moved). suc (tasks_left x.part.task)) same

-- a task that is done leaves one task fewer
task_less : (p : JobPart) (a : TaskAnswer) (now poll : ℕ) (t : Task) (m : Moved) → IsCalm a → after p a now poll t ≡ Some m → tasks_left t ≡ suc (tasks_left m.part.task)
task_less p answer.Failed now poll t m calm h = absurd calm
task_less p answer.Running now poll t m calm h = absurd calm
task_less p answer.Nothing now poll t m calm h = absurd (cc h)
task_less p (answer.Result r) now poll t m calm h = absurd (cc h)
task_less p answer.Done now poll task.Upload m calm h = goes_to_less task.Upload task.Submit 0 m refl h
task_less p answer.Done now poll task.Submit m calm h = goes_to_less task.Submit task.Update 0 m refl h
task_less p answer.Done now poll task.Update m calm h = goes_to_less task.Update task.Retrieve 0 m refl h
task_less p answer.Done now poll task.Retrieve m calm h = absurd (cc h)

-- ---- prices of calculations

-- a price is that of the definition, where it wasn't killed
pub price_is : (levels : ℕ) (library : List Definition) (results : Request → Option JobResult) (kills : Kills) (b : ℕ) (name : List ℕ) (inputs : Values) (d : Definition)
    → kills [] ≡ None → definition_named name library ≡ Some d
    → price levels library (by_request results) kills b name inputs
    ≡ price_of (Some d) results (λ ports. cost (tolls levels library (by_request results) kills ports) b) inputs
price_is zero library results kills b name inputs d lives is = λ i. price_by (lives i) (is i) results (λ ports. cost (tolls zero library (by_request results) kills ports) b) inputs
price_is (suc levels) library results kills b name inputs d lives is =
    λ i. price_by (lives i) (is i) results (λ ports. cost (tolls (suc levels) library (by_request results) kills ports) b) inputs

-- what a job with a request owes is told by its row
row_of_price : (results : Request → Option JobResult) (q : Request) (n : ℕ) → job_cost (Gives q) results ≡ Some n → (x : JobResult) × (results q ≡ Some x) × (n ≡ 5)
row_of_price results q n h = at (results q) refl h
  where
    at : (o : Option JobResult) → results q ≡ o → option_map {U = ℕ} (λ (result : JobResult). 5) o ≡ Some n → (x : JobResult) × (results q ≡ Some x) × (n ≡ 5)
    at None is e = absurd (cc e)
    at (Some x) is e = (x, is, same e)
      where
        same : option_map {U = ℕ} (λ (result : JobResult). 5) (Some x) ≡ Some n → n ≡ 5
        same g = cc

-- ---- sources

taken_source : (w : World) (r q : ProcessRecord) → TakesSource w r (Some q.node) → find_record q.node w.records ≡ Some q → IsSourceFor w (w.batches + 1) r q
taken_source w r q t there =
    let l = by r.caching refl in
    let again : Some l.0.0 ≡ Some q = sym l.0.1 ∙ there in
    let same : l.0.0 ≡ q = cc in
    subst (IsSourceFor w (w.batches + 1) r) same l.0.2
  where
    by : (b : Bool) → r.caching ≡ b → IsLowestSource w (w.batches + 1) r (Some q.node)
    by true is = t.on is
    by false is = absurd (let none = t.off is in cc none)

clones_end : (w : World) (r q : ProcessRecord) → MayStart w r → IsSound w → TakesSource w r (Some q.node) → find_record q.node w.records ≡ Some q
    → MayEnd w r (come_to w q) (Some q.node)
clones_end w r q h s t there =
    let is = taken_source w r q t there in
    let above : q.node ≢ 0 = λ e. let none : None ≡ Some (process_node q.kind) = ap (node_of w.nodes) (sym e) ∙ process_is_node w s.consistent q there in cc none in
    record {
      sound = s;
      found = h.found;
      created = h.created;
      calculates = h.calculates;
      over = ap has_ended is.0.finished;
      alive = λ dead. let e : state.Finished is.0.status ≡ state.Killed = sym is.0.finished ∙ dead in cc e;
      takes = t;
      numbered = cond-false (q.node == 0) None (Some q.node) (ne_eqb q.node 0 above);
      good = outputs_are_inputs w q.node s.consistent;
    }

-- ---- turns

no_chain : (k : ProcessKind) (o : Option Definition) (d : Definition) → is_calculation k ≡ true → o ≡ Some d → is_of_kind k o ≡ true → is_of_kind kind.Chain (Some d) ≡ true → ⊥
no_chain k o (definition.Function f) is e h c = cc c
no_chain k o (definition.Job j) is e h c = cc c
no_chain kind.Function o (definition.Chain x) is e h c = let g : is_of_kind kind.Function (Some (definition.Chain x)) ≡ true = ap (is_of_kind kind.Function) (sym e) ∙ h in cc g
no_chain kind.Job o (definition.Chain x) is e h c = let g : is_of_kind kind.Job (Some (definition.Chain x)) ≡ true = ap (is_of_kind kind.Job) (sym e) ∙ h in cc g
no_chain kind.Chain o (definition.Chain x) is e h c = cc is

module _ (results : Request → Option JobResult) (w : World) (r : ProcessRecord) (s : IsSound w) (found : find_record r.node w.records ≡ Some r)
    (k : ℕ) (left : IsLeft results w k) where
  stands : Stands w r
  stands = found_holds (Stands w) r.node w.records r s.consistent.records found

  abbrev Owes : ℕ → Type 0
  Owes n = PartOwes results w r r.part n

  owed : (n : ℕ) × Owes n
  owed = owed_in results w r.node r w.records k left found

  may : has_ended r.state ≡ false → MayBeTouched w r.node
  may live x there = let again : Some r ≡ Some x = sym found ∙ there in let same : r ≡ x = cc in ap (λ (y : ProcessRecord). has_ended y.state) (sym same) ∙ live

  -- ---- a calculation that ends

  ended_less : (p : Parsed) (source : Option ℕ) (code : Option ℤ) → Touches w (ended_world w r p source code) r.node → has_ended r.state ≡ false → p.state ≢ state.Killed
      → (n : ℕ) → Owes n → (l : ℕ) × IsLeft results (ended_world w r p source code) l × (k ≡ l + n)
  ended_less p source code t live lives n owes =
      lowered results w (ended_world w r p source code) r.node (end_record w r p source code) s t (may live) refl (λ x. refl) r found (not_killed p.state lives) n 0 refl (let z : n ≡ 0 + n = omega arith in subst Owes z owes) k left

  -- with one turn left for it
  ends_last : (p : Parsed) (code : Option ℤ) → Touches w (ended_world w r p None code) r.node → has_ended r.state ≡ false → p.state ≢ state.Killed → Owes 1
      → LeavesLess results r.node (applied w (ends w r p None code)) k
  ends_last p code t live lives owes =
      let e = ended_less p None code t live lives 1 owes in
      let sum = e.2 in
      subst (λ (v : World). LeavesLess results r.node v k) (sym (applied_ends w r p None code)) (e.0, e.1, omega (arith, sum), λ none. omega (arith, sum))

  -- ---- a created calculation

  module _ (calculates : is_calculation r.kind ≡ true) (created : r.state ≡ state.Created) where
    live : has_ended r.state ≡ false
    live = ap has_ended created

    is_fresh : r.part ≡ part.Fresh
    is_fresh = fresh_part r.kind r.state r.part created stands.part

    starts : MayStart w r
    starts = record { found = found; calculates = calculates; created = created }

    abbrev inputs : Values
    inputs = recorded_inputs w r.node

    fresh_price : (d : Definition) → its_definition w r ≡ Some d → (n : ℕ) → Owes n
        → (run : List Port → Costing) × (price_of (Some d) results run inputs ≡ Some n)
    fresh_price d is n owes =
        let library = library_of (library_at w.libraries r.library) r.definition d is in
        let named : definition_named r.definition library.0 ≡ Some d = ap (option_and_then (definition_named r.definition)) (sym library.1) ∙ is in
        let owes_fresh : FreshOwes results w r (library_at w.libraries r.library) n = subst (λ (x : Part). PartOwes results w r x n) is_fresh owes in
        let priced : FreshOwes results w r (Some library.0) n = subst (λ (o : Option (List Definition)). FreshOwes results w r o n) library.1 owes_fresh in (
          (λ ports. cost (tolls (levels_of r) library.0 (by_request results) (kills w r.node) ports) priced.0),
          sym (price_is (levels_of r) library.0 results (kills w r.node) priced.0 r.definition inputs d (alive w r found live) named) ∙ priced.1,
        )

    -- a function, or a job whose request is a reason
    ends_at_once : (p : Parsed) → MayEnd w r p None → Owes 1 → LeavesLess results r.node (applied w (ends w r p None None)) k
    ends_at_once p m owes = ends_last p None (touches w r p None None m) live m.alive owes

    clones_less : (q : ProcessRecord) → TakesSource w r (Some q.node) → find_record q.node w.records ≡ Some q
        → LeavesLess results r.node (applied w (ends w r (come_to w q) (Some q.node) None)) k
    clones_less q t there =
        let m = clones_end w r q starts s t there in
        let e = ended_less (come_to w q) (Some q.node) None (touches w r (come_to w q) (Some q.node) None m) live m.alive owed.0 owed.1 in
        let sum = e.2 in
        let some : 0 < owed.0 = positive owed.0 owed.1 in
        subst (λ (v : World). LeavesLess results r.node v k) (sym (applied_ends w r (come_to w q) (Some q.node) None)) (
          e.0,
          e.1,
          omega (arith, sum, some),
          λ none.
              let taken = none (end_record w r (come_to w q) (Some q.node) None r) (found_end w r (come_to w q) (Some q.node) None found) in
              let own : Some q.node ≡ None = sym m.numbered ∙ taken in absurd (cc own),
        )
      where
        positive : (n : ℕ) → Owes n → 0 < n
        positive zero owes = absurd (part_positive results w r r.part stands.part live (alive w r found live) owes)
        positive (suc n) owes = omega arith

    begins_less : (j : Job) (q : Request) → its_definition w r ≡ Some (definition.Job j) → request j inputs ≡ Gives q
        → LeavesLess results r.node (applied w (job_set r first_task false ∷ [])) k
    begins_less j q d asked =
        let p = fresh_price (definition.Job j) d owed.0 owed.1 in
        let row = row_of_price results q owed.0 (ap (λ (o : Outcome Request). job_cost o results) (sym asked) ∙ p.1) in
        let c = moved r state.Waiting false r.fuel (part.Job first_task) in
        let fits : IsFitting w r = found_holds (IsFitting w) r.node w.records r s.records found in
        let owes : JobOwes results w task.Upload (recorded_request w r) 4 =
        subst (λ (o : Option (Outcome Request)). JobOwes results w task.Upload o 4) (sym (request_is w r j q d asked)) (row.0, row.1, refl) in
        let e = lowered results w (moved_world w c) r.node (set (w.batches + 1) c) s (moved_touches w r state.Waiting false r.fuel (part.Job first_task) fits found live) (may live) refl
        (λ x. refl) r found refl 1 4 owes (subst Owes row.2 owed.1) k left in
        let sum = e.2 in
        (e.0, e.1, omega (arith, sum), λ none. omega (arith, sum))

  -- ---- a job at a task

  module _ (j : Job) (p : JobPart) (q : Request) (d : its_definition w r ≡ Some (definition.Job j)) (is : r.part ≡ part.Job p)
      (asked : request j (recorded_inputs w r.node) ≡ Gives q) where
    job_live : has_ended r.state ≡ false
    job_live = ap has_ended (job_waits r.kind r.state p p (ap (part_fits r.kind r.state) (sym is) ∙ stands.part)).0

    its_row : (x : JobResult) × (results q ≡ Some x) × (owed.0 ≡ tasks_left p.task)
    its_row =
        subst (λ (o : Option (Outcome Request)). JobOwes results w p.task o owed.0) (request_is w r j q d asked)
        (subst (λ (x : Part). PartOwes results w r x owed.0) is owed.1)

    moves_less : (m : Moved) → tasks_left p.task ≡ suc (tasks_left m.part.task) → LeavesLess results r.node (applied w (job_set r m.part m.paused ∷ [])) k
    moves_less m less =
        let c = moved r state.Waiting m.paused r.fuel (part.Job m.part) in
        let fits : IsFitting w r = found_holds (IsFitting w) r.node w.records r s.records found in
        let owes : JobOwes results w m.part.task (recorded_request w r) (tasks_left m.part.task) =
        subst (λ (o : Option (Outcome Request)). JobOwes results w m.part.task o (tasks_left m.part.task)) (sym (request_is w r j q d asked)) (its_row.0, its_row.1, refl) in
        let was = its_row.2 in
        let before : owed.0 ≡ tasks_left m.part.task + 1 = omega (arith, was, less) in
        let e = lowered results w (moved_world w c) r.node (set (w.batches + 1) c) s (moved_touches w r state.Waiting m.paused r.fuel (part.Job m.part) fits found job_live) (may job_live) refl
        (λ x. refl) r found refl 1 (tasks_left m.part.task) owes (subst Owes before owed.1) k left in
        let sum = e.2 in
        (e.0, e.1, omega (arith, sum), λ none. omega (arith, sum))

    parses_less : (result : JobResult) → p.task ≡ task.Retrieve → LeavesLess results r.node (applied w (ends w r (parsed j (recorded_inputs w r.node) result) None (Some result.code))) k
    parses_less result at =
        let fits : IsFitting w r = found_holds (IsFitting w) r.node w.records r s.records found in
        let x : Parsed = parsed j (recorded_inputs w r.node) result in
        let lives : x.state ≢ state.Killed = concluded_alive j.head.outputs (retrieved result) _ in
        let one : owed.0 ≡ 1 = its_row.2 ∙ ap tasks_left at in
        ends_last x (Some result.code) (live_end_touches w r x (Some result.code) fits found job_live) job_live lives (subst Owes one owed.1)

  -- ---- each turn

  of_kind : (d : Definition) → its_definition w r ≡ Some d → is_of_kind r.kind (Some d) ≡ true
  of_kind d e = sym (ap (is_of_kind r.kind) e) ∙ stands.defined

  pub turn_less : (poll now : ℕ) (a : TaskAnswer) (cs : List Change) → is_calculation r.kind ≡ true → TurnGives poll now w r a cs → IsCalm a
      → LeavesLess results r.node (applied w cs) k
  turn_less poll now a cs calculation (calculates f d new takes) calm =
      let inputs = recorded_inputs w r.node in
      let p = fresh_price calculation new (definition.Function f) d owed.0 owed.1 in
      let one : owed.0 ≡ 1 = let e = p.1 in cc in
      ends_at_once calculation new (calculated f inputs)
      (function_ends w r (calculated f inputs) (starts calculation new) s takes (calculated_ends f inputs) (calculated_alive f inputs) (calculated_set f inputs))
      (subst Owes one owed.1)
  turn_less poll now a cs calculation (clones q one new takes there) calm = clones_less calculation new q takes there
  turn_less poll now a cs calculation (begins j q d new takes asked) calm = begins_less calculation new j q d asked
  turn_less poll now a cs calculation (excepts j reason d new takes asked) calm =
      let p = fresh_price calculation new (definition.Job j) d owed.0 owed.1 in
      let priced : job_cost (Faults reason) results ≡ Some owed.0 = ap (λ (o : Outcome Request). job_cost o results) (sym asked) ∙ p.1 in
      let one : owed.0 ≡ 1 = cc in
      ends_at_once calculation new (excepted reason [])
      (function_ends w r (excepted reason []) (starts calculation new) s takes refl (λ dead. cc dead) nothing_good) (subst Owes one owed.1)
  turn_less poll now a cs calculation (gives_up j p reason d at asked) calm = absurd (waiting_jobs_ask w r j p reason s found d at asked)
  turn_less poll now a cs calculation (moves j p q answer m d at asked goes) calm = moves_less j p q d at asked m (task_less p answer now poll p.task m calm goes)
  turn_less poll now a cs calculation (parses j p q result d at asked is) calm = parses_less j p q d at asked result is
  turn_less poll now a cs calculation (advances c library x env d l at e) calm = absurd (no_chain r.kind (its_definition w r) (definition.Chain c) calculation d stands.defined refl)
  turn_less poll now a cs calculation (binds c x d is at) calm = absurd (no_chain r.kind (its_definition w r) (definition.Chain c) calculation d stands.defined refl)

pub calculation_turns_lower : CalculationTurnsLower
calculation_turns_lower results poll now w r a cs k s found calculation gives calm left = turn_less results w r s found k left poll now a cs calculation gives calm
