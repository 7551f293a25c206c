-- A consistent world accepts the marks of its processes, and the turns of its calculations.
use Rattle.std.proofs.Common.{inl, inr, ◌≡◌, ℕ, ℤ, zero, suc, ◌+◌, ◌*◌, ◌<◌, ◌^◌, Bool, true, false, Option, Some, None, List, [], ◌∷◌, length, refl, sym, ap, subst, ◌∙◌, arith}
use Rattle.std.specs.Prelude.{◌≢◌, ◌==◌, ◌&&◌, ◌||◌, not, if◌then◌else◌, nat_lt, codes}
use Rattle.std.proofs.lemmas.Bool.{cases_lt, eq-eqb, lt-ltb, ltb-true}
use Rattle.std.proofs.lemmas.List.{length-append}
use Rattle.wc_value.specs.Spelling.{depth}
use Rattle.wc_value.specs.declared.process.JobResult.{JobResult}
use Rattle.wc_value.specs.declared.process.ProcessState.{ProcessState}
use Rattle.wc_value.specs.declared.process.ProcessState.TheVariants as state
use Rattle.wc_value.specs.declared.process.Reason.{Reason}
use Rattle.wc_value.specs.declared.value.Value.TheVariants as value
use Rattle.wc_value.proofs.Depths.{depth_folder}
use Rattle.wc_syntax.specs.declared.definition.Definition.TheVariants as definition
use Rattle.wc_syntax.specs.declared.definition.Function.{Function}
use Rattle.wc_syntax.specs.declared.definition.Job.{Job}
use Rattle.wc_graph.specs.Rules.{node_of}
use Rattle.wc_graph.specs.declared.node.NodeKind.{NodeKind}
use Rattle.wc_semantics.specs.Outcomes.{calculated, excepted, parse_env, parsed, retrieved}
use Rattle.wc_semantics.specs.Rules.{Values, run_rules}
use Rattle.wc_semantics.specs.declared.outcomes.Parsed.{Parsed}
use Rattle.wc_state.specs.declared.record.JobPart.{JobPart}
use Rattle.wc_state.specs.declared.record.Part.{Part}
use Rattle.wc_state.specs.declared.record.Part.TheVariants as part
use Rattle.wc_state.specs.declared.record.ProcessKind.{ProcessKind}
use Rattle.wc_state.specs.declared.record.ProcessKind.TheVariants as kind
use Rattle.wc_state.specs.declared.record.ProcessRecord.{ProcessRecord}
use Rattle.wc_state.specs.declared.record.Task.{Task}
use Rattle.wc_state.specs.declared.record.Task.TheVariants as task
use Rattle.wc_world.specs.declared.change.Change.{Change}
use Rattle.wc_world.specs.World.{World}
use Rattle.wc_world.specs.Accepted.{IsAccepted, Setting, is_snapshot, is_source, kepts, kept_ended, kept_of, kept_started, setting}
use Rattle.wc_world.specs.Applied.{applied, is_created, started_in}
use Rattle.wc_world.specs.Consistent.{IsConsistent, Stands}
use Rattle.wc_world.specs.Fits.{counted_calls, fails_fit, is_fresh, is_nil, is_of_kind, part_fits, standing_fits, waits}
use Rattle.wc_world.specs.Records.{find_record, has_ended, is_calculation, process_node, same_kind}
use Rattle.wc_world.proofs.FoundRecords.{found_holds}
use Rattle.wc_machine.specs.declared.answer.TaskAnswer.{TaskAnswer}
use Rattle.wc_machine.specs.declared.answer.TaskAnswer.TheVariants as answer
use Rattle.wc_machine.specs.Ends.{TakesSource, come_to, ends}
use Rattle.wc_machine.specs.Laws.{HasPlaces}
use Rattle.wc_machine.specs.Machine.{marked, pause_changes, play_changes, renewed}
use Rattle.wc_machine.specs.Readiness.{is_ready, may_go}
use Rattle.wc_machine.specs.Recorded.{its_definition, recorded_inputs}
use Rattle.wc_machine.specs.Sources.{IsLowestSource, IsSourceFor}
use Rattle.wc_machine.specs.Submissions.{AreInputs}
use Rattle.wc_machine.specs.Tasks.{Moved, after, failed, saturated}
use Rattle.wc_machine.specs.Turns.{first_task, job_set}
use Rattle.wc_machine.proofs.AcceptedEnds.{ends_accepted, process_is_node}
use Rattle.wc_machine.proofs.CalculatedOutputs.{calculated_set, concluded_set, nothing_set, rules_set, set_more}
use Rattle.wc_machine.proofs.Endings.{applied_ends, data_nodes, end_set}
use Rattle.wc_machine.proofs.FunctionEnds.{calculated_ends, concluded_ends}
use Rattle.wc_soundness.proofs.JobEnds.{end_accepted}
use Rattle.wc_soundness.proofs.FaultingJobs.{job_calculates}
use Rattle.wc_soundness.proofs.Moves.{moves_accepted}
use Rattle.wc_soundness.proofs.Tasks.{job_waits}
use Rattle.wc_soundness.proofs.Given.{one_found}
use Rattle.wc_soundness.proofs.Outputs.{outputs_are_inputs}

-- ---- what a mark fits

paused_fits : (a b c : Bool) → (a || (b && c)) ≡ true → (a || (b && true)) ≡ true
paused_fits true b c h = refl
paused_fits false true c h = refl
paused_fits false false c h = h

fails_paused : (p : Part) (b : Bool) → fails_fit p b ≡ true → fails_fit p true ≡ true
fails_paused part.Fresh b h = refl
fails_paused (part.Chain c) b h = refl
fails_paused (part.Job j) b h = paused_fits (nat_lt j.fails 5) (j.fails == 5) b h
fails_paused part.Over b h = refl

renewed_job : (k : ProcessKind) (s : ProcessState) (j i : JobPart) → part_fits k s (part.Job j) ≡ part_fits k s (part.Job i)
renewed_job k state.Created j i = refl
renewed_job kind.Function state.Running j i = refl
renewed_job kind.Job state.Running j i = refl
renewed_job kind.Chain state.Running j i = refl
renewed_job kind.Function state.Waiting j i = refl
renewed_job kind.Job state.Waiting j i = refl
renewed_job kind.Chain state.Waiting j i = refl
renewed_job k (state.Finished n) j i = refl
renewed_job k (state.Excepted r) j i = refl
renewed_job k state.Killed j i = refl

renewed_part : (k : ProcessKind) (s : ProcessState) (p : Part) → part_fits k s (renewed p) ≡ part_fits k s p
renewed_part k s part.Fresh = refl
renewed_part k s (part.Chain c) = refl
renewed_part k s (part.Job j) = renewed_job k s (record { task = j.task; fails = 0; due = 0 }) j
renewed_part k s part.Over = refl

renewed_fails : (p : Part) → fails_fit (renewed p) false ≡ true
renewed_fails part.Fresh = refl
renewed_fails (part.Chain c) = refl
renewed_fails (part.Job j) = refl
renewed_fails part.Over = refl

renewed_standing : (w : World) (r : ProcessRecord) (p : Part) → standing_fits w r (renewed p) ≡ standing_fits w r p
renewed_standing w r part.Fresh = refl
renewed_standing w r (part.Chain c) = refl
renewed_standing w r (part.Job j) = refl
renewed_standing w r part.Over = refl

renewed_counted : (p : Part) → counted_calls (renewed p) ≡ counted_calls p
renewed_counted part.Fresh = refl
renewed_counted (part.Chain c) = refl
renewed_counted (part.Job j) = refl
renewed_counted part.Over = refl

-- ---- how often a task has failed

abbrev Fits : Moved → Type 0
Fits m = fails_fit (part.Job m.part) m.paused ≡ true

by_case : (b : Bool) (x y : Moved) → (b ≡ true → Fits x) → (b ≡ false → Fits y) → Fits (if b then x else y)
by_case true x y f g = f refl
by_case false x y f g = g refl

-- fewer than five, and not four
one_more : (n : ℕ) → n < 5 → (n == 4) ≡ false → suc n < 5
one_more n lt not_four =
    elim (cases_lt n 4) [
      | inl less ↦ omega arith
      | inr le ↦
          let four : n ≡ 4 = omega arith in
          let is : (n == 4) ≡ true = eq-eqb n 4 four in
          absurd (cc (is, not_four))
    ]

failed_fits : (j : JobPart) (now : ℕ) → nat_lt j.fails 5 ≡ true → Fits (failed j now)
failed_fits j now h =
    by_case (j.fails == 4) (record { part = record { task = j.task; fails = 5; due = j.due }; paused = true })
    (record { part = record { task = j.task; fails = suc j.fails; due = saturated (now + 20000 * 2 ^ j.fails) }; paused = false }) (λ e. refl)
    (λ e. ap (λ (x : Bool). x || ((suc j.fails == 5) && false)) (lt-ltb (suc j.fails) 5 (one_more j.fails (ltb-true j.fails 5 h) e)))

starts_anew : (t : Task) (due : ℕ) (m : Moved) → Some (record { part = record { task = t; fails = 0; due = due }; paused = false }) ≡ Some m → Fits m
starts_anew t due m h =
    let fresh : Moved = record { part = record { task = t; fails = 0; due = due }; paused = false } in
    let same : fresh ≡ m = cc in
    subst Fits same refl

moved_fails : (j : JobPart) (t : Task) (a : TaskAnswer) (now poll : ℕ) (m : Moved) → nat_lt j.fails 5 ≡ true → after j a now poll t ≡ Some m → Fits m
moved_fails j t answer.Failed now poll m few h =
    let same : failed j now ≡ m = cc in
    subst Fits same (failed_fits j now few)
moved_fails j t answer.Nothing now poll m few h = absurd (cc)
moved_fails j task.Upload answer.Done now poll m few h = starts_anew task.Submit 0 m h
moved_fails j task.Submit answer.Done now poll m few h = starts_anew task.Update 0 m h
moved_fails j task.Update answer.Done now poll m few h = starts_anew task.Retrieve 0 m h
moved_fails j task.Retrieve answer.Done now poll m few h = absurd (cc)
moved_fails j task.Upload answer.Running now poll m few h = absurd (cc)
moved_fails j task.Submit answer.Running now poll m few h = absurd (cc)
moved_fails j task.Update answer.Running now poll m few h = starts_anew task.Update (saturated (now + poll)) m h
moved_fails j task.Retrieve answer.Running now poll m few h = absurd (cc)
moved_fails j t (answer.Result r) now poll m few h = absurd (cc)

kind_waits : (k : ProcessKind) (j : JobPart) → same_kind kind.Job k ≡ true → waits k (part.Job j) ≡ true
kind_waits kind.Function j h = absurd (cc)
kind_waits kind.Job j h = refl
kind_waits kind.Chain j h = absurd (cc)

fresh_counts : (p : Part) → is_fresh p ≡ true → counted_calls p ≡ 0
fresh_counts part.Fresh h = refl
fresh_counts (part.Chain c) h = absurd (cc)
fresh_counts (part.Job j) h = absurd (cc)
fresh_counts part.Over h = absurd (cc)

not_paused : (b c : Bool) → not b && c ≡ true → b ≡ false
not_paused true c h = absurd (cc)
not_paused false c h = refl

fewer_than_five : (a b : Bool) → (a || (b && false)) ≡ true → a ≡ true
fewer_than_five true b h = refl
fewer_than_five false true h = absurd (cc)
fewer_than_five false false h = absurd (cc)

-- ---- outputs

retrieved_set : (result : JobResult) → AreInputs (retrieved result)
retrieved_set result =
    let one : depth (value.Folder result.files) ≡ 1 = depth_folder result.files in
    set_more (codes "retrieved") (value.Folder result.files) [] (omega arith) nothing_set

parsed_set : (j : Job) (inputs : Values) (result : JobResult) → AreInputs (parsed j inputs result).outputs
parsed_set j inputs result =
    concluded_set j.head.outputs (retrieved result) (run_rules j.head.outputs j.parse (parse_env inputs result) (retrieved result)) (retrieved_set result)
    (λ end h. rules_set j.head.outputs j.parse (parse_env inputs result) (retrieved result) end (retrieved_set result) h)

data_count : (os : Values) → length (data_nodes os) ≡ length os
data_count [] = refl
data_count (o ∷ os) = ap (λ (n : ℕ). suc n) (data_count os)

-- room for the nodes of the world after an end is room for its outputs
places_of_end : (w : World) (r : ProcessRecord) (p : Parsed) (source : Option ℕ) (code : Option ℤ) → HasPlaces w (length (applied w (ends w r p source code)).nodes)
    → HasPlaces w (length w.nodes + length p.outputs)
places_of_end w r p source code =
    subst (HasPlaces w)
    (ap (λ (v : World). length v.nodes) (applied_ends w r p source code) ∙ length-append w.nodes (data_nodes p.outputs)
    ∙ ap (λ (n : ℕ). length w.nodes + n) (data_count p.outputs))

-- ---- sources

no_nodes : (nodes : List NodeKind) (id : ℕ) (k : NodeKind) → node_of nodes id ≡ Some k → is_nil nodes ≡ false
no_nodes [] zero k h = absurd (cc)
no_nodes [] (suc place) k h = absurd (cc)
no_nodes (n ∷ ns) id k h = refl

-- a world with a process takes no snapshot
no_snapshot : (w : World) (r : ProcessRecord) (cs : List Change) → IsConsistent w → find_record r.node w.records ≡ Some r → is_snapshot w cs ≡ false
no_snapshot w r cs c there =
    let some : is_nil w.nodes ≡ false = no_nodes w.nodes r.node (process_node r.kind) (process_is_node w c r there) in
    first_false (is_nil w.nodes) _ _ some
  where
    first_false : (a b c : Bool) → a ≡ false → ((a && b) && c) ≡ false
    first_false true b c h = absurd (cc)
    first_false false b c h = refl

source_is : (s : Setting) (w : World) (r q : ProcessRecord) (p : Parsed) → s.snapshot ≡ false → s.batch ≡ w.batches + 1 → r.state ≡ state.Created → find_record q.node w.records ≡ Some q
    → p.state ≡ q.state → IsSourceFor w (w.batches + 1) r q → is_source s (end_set r p (Some q.node) None) r (find_record q.node w.records) ≡ true
source_is s w r q p plain batch created there same is =
    let started : started_in s.batch r p.state ≡ w.batches + 1
    = (λ i. started_in (batch i) r (same i))
    ∙ (λ i. started_in (w.batches + 1) r (is.0.finished i))
    ∙ ap (λ (x : ProcessState). if is_created x && true then w.batches + 1 else r.started) created in
    let one : nat_lt 0 q.ended ≡ true = lt-ltb 0 q.ended is.0.ended in
    let two : nat_lt q.ended (w.batches + 1) ≡ true = lt-ltb q.ended (w.batches + 1) is.0.earlier in
    ap (is_source s (end_set r p (Some q.node) None) r) there
    ∙ (λ i. is_calculation q.kind && (nat_lt 0 (if plain i then kept_ended (kept_of q.node (kepts s.all)) else q.ended)
    && nat_lt (if plain i then kept_ended (kept_of q.node (kepts s.all)) else q.ended) (if plain i then kept_started (kept_of r.node (kepts s.all)) else started_in s.batch r p.state)))
    ∙ (λ i. is.0.calculates i && (one i && nat_lt q.ended (started i)))
    ∙ two

or_last : (a b : Bool) → b ≡ true → a || b ≡ true
or_last true b h = refl
or_last false b h = h

-- ---- one process of a consistent world

module _ (w : World) (c : IsConsistent w) (r : ProcessRecord) (found : find_record r.node w.records ≡ Some r) where
  stands : Stands w r
  stands = found_holds (Stands w) r.node w.records r c.records found

  -- ---- marks

  module _ (live : has_ended r.state ≡ false) (room : w.batches < 4000000000) where
    pub pause_accepted : pause_changes r ≢ [] → IsAccepted w (pause_changes r)
    pause_accepted = by r.paused
      where
        by : (b : Bool) → (if b then [] else marked r true r.part ∷ []) ≢ [] → IsAccepted w (if b then [] else marked r true r.part ∷ [])
        by true some = absurd (some refl)
        by false some =
            moves_accepted w r r.state true r.fuel r.part c found
            (record {
              fits = λ i. not (live i) && (stands.part i && (fails_paused r.part r.paused stands.fails i && stands.standing i));
              goes_on = live;
              counted = refl;
            }) room

    pub play_accepted : play_changes r ≢ [] → IsAccepted w (play_changes r)
    play_accepted = by r.paused
      where
        by : (b : Bool) → (if b then marked r false (renewed r.part) ∷ [] else []) ≢ [] → IsAccepted w (if b then marked r false (renewed r.part) ∷ [] else [])
        by false some = absurd (some refl)
        by true some =
            moves_accepted w r r.state false r.fuel (renewed r.part) c found
            (record {
              fits = λ i. not (live i)
                  && ((renewed_part r.kind r.state r.part ∙ stands.part) i && (renewed_fails r.part i && (renewed_standing w r r.part ∙ stands.standing) i));
              goes_on = live;
              counted = renewed_counted r.part;
            }) room

  -- ---- a created calculation that takes an outcome

  lowest : (source : ℕ) → TakesSource w r (Some source) → IsLowestSource w (w.batches + 1) r (Some source)
  lowest source t = by r.caching refl
    where
      by : (b : Bool) → r.caching ≡ b → IsLowestSource w (w.batches + 1) r (Some source)
      by true is = t.on is
      by false is = absurd (let none = t.off is in cc none)

  pub clones_accepted : (q : ProcessRecord) → is_calculation r.kind ≡ true → r.state ≡ state.Created → TakesSource w r (Some q.node) → find_record q.node w.records ≡ Some q
      → HasPlaces w (length (applied w (ends w r (come_to w q) (Some q.node) None)).nodes) → IsAccepted w (ends w r (come_to w q) (Some q.node) None)
  clones_accepted q calculates created takes there places =
      let p : Parsed = come_to w q in
      let cs : List Change = ends w r p (Some q.node) None in
      let l = lowest q.node takes in
      let is : IsSourceFor w (w.batches + 1) r q = subst (IsSourceFor w (w.batches + 1) r) (one_found (find_record q.node w.records) l.0.0 q l.0.1 there) l.0.2 in
      ends_accepted w r p (Some q.node) None c found calculates created (ap has_ended is.0.finished) (outputs_are_inputs w q.node c)
      (places_of_end w r p (Some q.node) None places)
      (or_last _ (is_source (setting w cs) (end_set r p (Some q.node) None) r (find_record q.node w.records))
      (source_is (setting w cs) w r q p (no_snapshot w r cs c found) refl created there refl is))

  -- ---- ends of calculations

  live_end : (p : Parsed) (code : Option ℤ) → is_calculation r.kind ≡ true → has_ended r.state ≡ false → has_ended p.state ≡ true → AreInputs p.outputs
      → HasPlaces w (length (applied w (ends w r p None code)).nodes) → IsAccepted w (ends w r p None code)
  live_end p code calculates live over good places = end_accepted w r p code c found calculates live over good (places_of_end w r p None code places)

  function_kind : (f : Function) (k : ProcessKind) → is_of_kind k (Some (definition.Function f)) ≡ true → is_calculation k ≡ true
  function_kind f kind.Function h = refl
  function_kind f kind.Job h = absurd (cc)
  function_kind f kind.Chain h = absurd (cc)

  pub function_accepted : (f : Function) → its_definition w r ≡ Some (definition.Function f) → r.state ≡ state.Created
      → HasPlaces w (length (applied w (ends w r (calculated f (recorded_inputs w r.node)) None None)).nodes)
      → IsAccepted w (ends w r (calculated f (recorded_inputs w r.node)) None None)
  function_accepted f d created =
      let inputs : Values = recorded_inputs w r.node in
      live_end (calculated f inputs) None (function_kind f r.kind (ap (is_of_kind r.kind) (sym d) ∙ stands.defined)) (ap has_ended created) (calculated_ends f inputs) (calculated_set f inputs)

  -- ---- jobs

  module _ (j : Job) (d : its_definition w r ≡ Some (definition.Job j)) where
    is_job : same_kind kind.Job r.kind ≡ true
    is_job = ap (is_of_kind r.kind) (sym d) ∙ stands.defined

    pub excepts_accepted : (reason : Reason) → has_ended r.state ≡ false → HasPlaces w (length (applied w (ends w r (excepted reason []) None None)).nodes)
        → IsAccepted w (ends w r (excepted reason []) None None)
    excepts_accepted reason live = live_end (excepted reason []) None (job_calculates r.kind is_job) live refl nothing_set

    pub begins_accepted : r.state ≡ state.Created → w.batches < 4000000000 → IsAccepted w (job_set r first_task false ∷ [])
    begins_accepted created room =
        let live : has_ended r.state ≡ false = ap has_ended created in
        let fitting : waits r.kind (part.Job first_task) ≡ true = kind_waits r.kind first_task is_job in
        let none : counted_calls r.part ≡ 0 = fresh_counts r.part (ap (λ (x : ProcessState). part_fits r.kind x r.part) (sym created) ∙ stands.part) in
        moves_accepted w r state.Waiting false r.fuel (part.Job first_task) c found
        (record { fits = λ i. not (live i) && (fitting i && true); goes_on = refl; counted = sym none }) room

    module _ (p : JobPart) (is : r.part ≡ part.Job p) where
      waiting : (i : JobPart) → (r.state ≡ state.Waiting) × (waits r.kind (part.Job i) ≡ true)
      waiting i = job_waits r.kind r.state p i (ap (part_fits r.kind r.state) (sym is) ∙ stands.part)

      pub job_lives : has_ended r.state ≡ false
      job_lives = ap has_ended (waiting p).0

      pub task_accepted : (poll now : ℕ) (a : TaskAnswer) (m : Moved) → is_ready w now r ≡ true → after p a now poll p.task ≡ Some m → w.batches < 4000000000
          → IsAccepted w (job_set r m.part m.paused ∷ [])
      task_accepted poll now a m ready moved room =
          let fitting : waits r.kind (part.Job m.part) ≡ true = (waiting m.part).1 in
          let live : has_ended r.state ≡ false = job_lives in
          let playing : r.paused ≡ false = not_paused r.paused (may_go w now r.state r.part) ready in
          let few : nat_lt p.fails 5 ≡ true = fewer_than_five (nat_lt p.fails 5) (p.fails == 5) ((λ i. fails_fit (sym is i) (sym playing i)) ∙ stands.fails) in
          let again : fails_fit (part.Job m.part) m.paused ≡ true = moved_fails p p.task a now poll m few moved in
          moves_accepted w r state.Waiting m.paused r.fuel (part.Job m.part) c found
          (record { fits = λ i. not (live i) && (fitting i && (again i && true)); goes_on = refl; counted = ap counted_calls (sym is) }) room

      pub parse_accepted : (result : JobResult) → HasPlaces w (length (applied w (ends w r (parsed j (recorded_inputs w r.node) result) None (Some result.code))).nodes)
          → IsAccepted w (ends w r (parsed j (recorded_inputs w r.node) result) None (Some result.code))
      parse_accepted result =
          let inputs : Values = recorded_inputs w r.node in
          live_end (parsed j inputs result) (Some result.code) (job_calculates r.kind is_job) job_lives
          (concluded_ends j.head.outputs (retrieved result) (run_rules j.head.outputs j.parse (parse_env inputs result) (retrieved result))) (parsed_set j inputs result)
