-- The exit codes that turns in a sound world bring are those of results that were brought.
use Rattle.std.proofs.Common.{◌≡◌, ◌≢◌, ◌⊎◌, inl, inr, ⊎_elim, ℕ, ℤ, ◌+◌, Bool, true, false, List, [], Option, Some, None, refl, sym, ap, subst, ◌∙◌, arith}
use Rattle.std.specs.Prelude.{◌==◌, IfSome, codes, option_map, option_and_then}
use Rattle.std.proofs.lemmas.Bool.{cases_eq, cond-false, ne_eqb}
use Rattle.wc_value.specs.Ascending.{lookup}
use Rattle.wc_value.specs.Spelling.{depth}
use Rattle.wc_value.specs.declared.process.JobResult.{JobResult}
use Rattle.wc_value.specs.declared.process.ProcessState.TheVariants as state
use Rattle.wc_value.specs.declared.process.Request.{Request}
use Rattle.wc_value.specs.declared.value.Value.{out-Value, out-roll-Value}
use Rattle.wc_value.specs.declared.value.Value.TheOpen.{Value-F}
use Rattle.wc_value.specs.declared.value.Value.TheVariants as value
use Rattle.wc_value.specs.declared.value.Value.TheVariants.{rolls-Folder}
use Rattle.wc_value.proofs.Depths.{depth_folder}
use Rattle.wc_syntax.specs.Findings.{definition_named}
use Rattle.wc_syntax.specs.declared.definition.Definition.{Definition}
use Rattle.wc_syntax.specs.declared.definition.Definition.TheVariants as definition
use Rattle.wc_syntax.specs.declared.definition.Job.{Job}
use Rattle.wc_expression.specs.declared.outcome.Outcome.{Outcome}
use Rattle.wc_expression.specs.declared.outcome.Outcome.TheVariants.{Gives}
use Rattle.wc_semantics.specs.Outcomes.{calculated, excepted, parse_env, parsed, retrieved}
use Rattle.wc_semantics.specs.Requests.{request}
use Rattle.wc_semantics.specs.Rules.{Values, run_rules}
use Rattle.wc_semantics.specs.declared.outcomes.Parsed.{Parsed}
use Rattle.wc_state.specs.declared.record.JobPart.{JobPart}
use Rattle.wc_state.specs.declared.record.Part.TheVariants as part
use Rattle.wc_state.specs.declared.record.ProcessKind.{ProcessKind}
use Rattle.wc_state.specs.declared.record.ProcessKind.TheVariants as kind
use Rattle.wc_state.specs.declared.record.ProcessRecord.{ProcessRecord}
use Rattle.wc_state.specs.declared.record.Task.TheVariants as task
use Rattle.wc_records.specs.declared.change.Kept.{Kept}
use Rattle.wc_records.specs.declared.change.NewProcess.{NewProcess}
use Rattle.wc_records.specs.declared.change.SetProcess.{SetProcess}
use Rattle.wc_world.specs.declared.change.Change.{Change}
use Rattle.wc_world.specs.World.{Known, World}
use Rattle.wc_world.specs.Applied.{applied, begun, keep, made, set}
use Rattle.wc_world.specs.Consistent.{Stands}
use Rattle.wc_world.specs.Fits.{is_of_kind, part_fits}
use Rattle.wc_world.specs.Records.{find_record, has_ended, library_at, same_kind}
use Rattle.wc_world.proofs.FoundRecords.{found_holds}
use Rattle.wc_world.proofs.ReachedLists.{at_one, at_one_keeps, find_mapped, found_node}
use Rattle.wc_machine.specs.declared.answer.TaskAnswer.{TaskAnswer}
use Rattle.wc_machine.specs.declared.answer.TaskAnswer.TheVariants as answer
use Rattle.wc_machine.specs.Advances.{advance}
use Rattle.wc_machine.specs.Questions.{Need, need, need_at, performs}
use Rattle.wc_machine.specs.Continues.{Carries, Continues}
use Rattle.wc_machine.specs.Ends as ending
use Rattle.wc_machine.specs.Machine.{turn}
use Rattle.wc_machine.specs.Recorded.{Contents, HasResult, own, folder_of, folder_seen, its_definition, recorded_inputs, recorded_outputs, recorded_request, request_by, retrieved_folder}
use Rattle.wc_machine.specs.Sound.{IsFitting, IsSound}
use Rattle.wc_machine.specs.Submissions.{AreInputs}
use Rattle.wc_machine.specs.Turns.{TurnGives, calculates, clones, begins, excepts, gives_up, moves, parses, advances, binds}
use Rattle.wc_machine.proofs.CalculatedOutputs.{concluded_set, nothing_set, rules_set, set_more}
use Rattle.wc_machine.proofs.Endings.{applied_ends, end_record, ended_world}
use Rattle.wc_machine.proofs.EndedWorlds.{found_end, inputs_kept, outputs_of_end}
use Rattle.wc_machine.proofs.Frames.{library_stays}
use Rattle.wc_soundness.proofs.FreeNames.{retrieved_is_free}
use Rattle.wc_soundness.proofs.Retrieved.{retrieved_stays}
use Rattle.wc_soundness.proofs.Tasks.{job_waits}
use Rattle.wc_machine.specs.Results.{result_of, table_of}
use Rattle.wc_soundness.proofs.FoundResults.{its_table_agrees, results_are_found}
use Rattle.wc_soundness.proofs.LaterTables.{later_tables_agree}
use Rattle.wc_runner.specs.Codes.{AreBrought, IsBrought, TurnsBringCodes, code_of}
use Rattle.wc_runner.specs.Laws.{StaysSound}
use Rattle.wc_runner.specs.Outside.{AnswersNeed, Outside}
use Rattle.wc_runner.specs.Trips.{TurnOf, none, one_more, one_rest}
use Rattle.wc_runner.proofs.ManyTurns.{turn_sound, turns_sound}
use Rattle.wc_runner.proofs.Sets.{AllSuit, advanced_suits, changes_leave, ends_suit, gives_turn}

-- ---- changes that set no exit code

abbrev SetsNone : SetProcess → Type 0
SetsNone s = s.code ≡ None

-- each exit code that is kept after was kept before
abbrev KeepsCode : Option ProcessRecord → Option ProcessRecord → Type 0
KeepsCode old new = (code : ℤ) → code_of new ≡ Some code → code_of old ≡ Some code

born : (number : ℕ) (n : NewProcess) → KeepsCode None (Some (made number n))
born number n code h = h

set_none : (b : ℕ) (s : SetProcess) → SetsNone s → (r : ProcessRecord) → KeepsCode (Some r) (Some (set b s r))
set_none b s bare r code h = absurd (cc (bare, h))

kept_same : (k : Kept) (r : ProcessRecord) → KeepsCode (Some r) (Some (keep k r))
kept_same k r code h = h

codes_kept : (w : World) (cs : List Change) → AllSuit SetsNone cs → (pid : ℕ) → KeepsCode (find_record pid w.records) (find_record pid (applied w cs).records)
codes_kept w cs bare pid =
    changes_leave SetsNone KeepsCode (λ o code h. h) (λ a b c first second code h. first code (second code h)) born set_none kept_same (w.batches + 1) (begun w) cs bare pid

-- ---- a job that is parsed

folder_opens : (files : Contents) → out-Value (value.Folder files) ≡ Value-F.Folder files
folder_opens files = ap out-Value (sym (rolls-Folder files)) ∙ out-roll-Value (Value-F.Folder files)

retrieved_set : (result : JobResult) → AreInputs (retrieved result)
retrieved_set result =
    let one : depth (value.Folder result.files) ≡ 1 = depth_folder result.files in
    set_more (codes "retrieved") (value.Folder result.files) [] (omega arith) nothing_set

parsed_set : (j : Job) (inputs : Values) (result : JobResult) → AreInputs (parsed j inputs result).outputs
parsed_set j inputs result =
    concluded_set j.head.outputs (retrieved result) (run_rules j.head.outputs j.parse (parse_env inputs result) (retrieved result)) (retrieved_set result)
    (λ end h. rules_set j.head.outputs j.parse (parse_env inputs result) (retrieved result) end (retrieved_set result) h)

kind_is_job : (k : ProcessKind) → same_kind kind.Job k ≡ true → k ≡ kind.Job
kind_is_job kind.Function h = absurd (cc)
kind_is_job kind.Job h = refl
kind_is_job kind.Chain h = absurd (cc)

-- what is known of a job whose result was parsed
pub record IsParsed (v : World) (pid : ℕ) (q : Request) (result : JobResult) : Type 0 where
  pub process : ProcessRecord
  pub found : find_record pid v.records ≡ Some process
  pub asks : recorded_request v process ≡ Some (Gives q)
  pub has : HasResult v pid result

module _ (w : World) (r : ProcessRecord) (j : Job) (p : JobPart) (q : Request) (result : JobResult) (s : IsSound w) (found : find_record r.node w.records ≡ Some r)
    (d : its_definition w r ≡ Some (definition.Job j)) (is : r.part ≡ part.Job p) (asked : request j (recorded_inputs w r.node) ≡ Gives q) where
  abbrev Inputs : Values
  Inputs = recorded_inputs w r.node

  abbrev Out : Parsed
  Out = parsed j Inputs result

  abbrev Later : World
  Later = ended_world w r Out None (Some result.code)

  stands : Stands w r
  stands = found_holds (Stands w) r.node w.records r s.consistent.records found

  waits : r.state ≡ state.Waiting
  waits = (job_waits r.kind r.state p p (ap (part_fits r.kind r.state) (sym is) ∙ stands.part)).0

  is_parsed : IsParsed Later r.node q result
  is_parsed =
      let y : ProcessRecord = end_record w r Out None (Some result.code) r in
      let defined : same_kind kind.Job r.kind ≡ true = ap (is_of_kind r.kind) (sym d) ∙ stands.defined in
      let there : find_record r.node Later.records ≡ Some y = found_end w r Out None (Some result.code) found in
      let same : recorded_inputs Later r.node ≡ Inputs = inputs_kept w r Out None (Some result.code) s.consistent r.node in
      let outputs : recorded_outputs Later r.node ≡ Out.outputs
      = outputs_of_end w r Out None (Some result.code) s.consistent found (ap has_ended waits) (parsed_set j Inputs result) in
      let folder : retrieved_folder Later r.node ≡ Some result.files
      = ap (λ (os : Values). option_and_then folder_of (lookup (codes "retrieved") os)) outputs
      ∙ ap (option_and_then folder_of) (retrieved_stays j Inputs result (retrieved_is_free w r j s d)) ∙ ap folder_seen (folder_opens result.files) in
      let again : request j (recorded_inputs Later r.node) ≡ Gives q = ap (request j) same ∙ asked in
      record {
        process = y;
        found = there;
        asks = ap (λ (x : Option Definition). request_by x (recorded_inputs Later r.node)) d ∙ ap (λ (x : Outcome Request). Some x) again;
        has = own y result.code result.files there (kind_is_job r.kind defined) refl folder;
      }

  -- what it asked for
  needs : p.task ≡ task.Retrieve → need w r ≡ performs task.Retrieve q
  needs at =
      let asks : recorded_request w r ≡ Some (Gives q)
      = ap (λ (x : Option Definition). request_by x Inputs) d ∙ ap (λ (x : Outcome Request). Some x) asked in
      (λ i. need_at (waits i) (is i) (asks i)) ∙ ap (λ t. performs t q) at

  -- what its end makes of a record
  abbrev Ends : ProcessRecord → ProcessRecord
  Ends = end_record w r Out None (Some result.code)

  -- the exit codes of the others stay
  others : (pid : ℕ) → pid ≢ r.node → KeepsCode (find_record pid w.records) (find_record pid Later.records)
  others pid ne code h =
      at (find_record pid w.records) refl
      (sym (ap code_of (find_mapped (at_one r.node Ends) (at_one_keeps (λ (x : ProcessRecord). x.node) Ends (λ x. refl) r.node) pid w.records)) ∙ h)
    where
      at : (o : Option ProcessRecord) → find_record pid w.records ≡ o → code_of (option_map (at_one r.node Ends) o) ≡ Some code → code_of o ≡ Some code
      at None here e = e
      at (Some x) here e =
          let apart : (x.node == r.node) ≡ false = ne_eqb x.node r.node (λ same. ne (sym (found_node pid w.records x here) ∙ same)) in
          ap (λ (y : ProcessRecord). y.code) (sym (cond-false (x.node == r.node) (Ends x) x apart)) ∙ e

-- ---- a turn

-- Each exit code after a turn was kept before, or the turn parsed this result of the process.
abbrev Brings : World → World → ProcessRecord → TaskAnswer → (pid : ℕ) → ℤ → Type 0
Brings w v r a pid code =
    (code_of (find_record pid w.records) ≡ Some code)
    ⊎ ((q : Request) × (result : JobResult) × (a ≡ answer.Result result) × (need w r ≡ performs task.Retrieve q) × (result.code ≡ code) × IsParsed v pid q result)

bare_turn : (w : World) (r : ProcessRecord) (a : TaskAnswer) (cs : List Change) → AllSuit SetsNone cs → (pid : ℕ) (code : ℤ)
    → code_of (find_record pid (applied w cs).records) ≡ Some code → Brings w (applied w cs) r a pid code
bare_turn w r a cs bare pid code h = inl (codes_kept w cs bare pid code h)

parsed_turn : (w : World) (r : ProcessRecord) (j : Job) (p : JobPart) (q : Request) (result : JobResult) → IsSound w → find_record r.node w.records ≡ Some r
    → its_definition w r ≡ Some (definition.Job j) → r.part ≡ part.Job p → request j (recorded_inputs w r.node) ≡ Gives q → p.task ≡ task.Retrieve → (pid : ℕ) (code : ℤ)
    → code_of (find_record pid (ended_world w r (parsed j (recorded_inputs w r.node) result) None (Some result.code)).records) ≡ Some code
    → Brings w (ended_world w r (parsed j (recorded_inputs w r.node) result) None (Some result.code)) r (answer.Result result) pid code
parsed_turn w r j p q result s found d is asked at pid code h =
    ⊎_elim
    (λ (same : pid ≡ r.node).
    let there : IsParsed (Later w r j p q result s found d is asked) r.node q result = is_parsed w r j p q result s found d is asked in
    let has : Some result.code ≡ Some code
    = sym (ap code_of (found_end w r (parsed j (recorded_inputs w r.node) result) None (Some result.code) found))
    ∙ subst (λ (k : ℕ). code_of (find_record k (Later w r j p q result s found d is asked).records) ≡ Some code) same h in
    let code_is : result.code ≡ code = cc in
    inr (q, result, refl, needs w r j p q result s found d is asked at, code_is, subst (λ (k : ℕ). IsParsed (Later w r j p q result s found d is asked) k q result) (sym same) there))
    (λ (ne : pid ≢ r.node). inl (others w r j p q result s found d is asked pid ne code h))
    (cases_eq pid r.node)

turn_brings : (poll now : ℕ) (w : World) (r : ProcessRecord) (a : TaskAnswer) (cs : List Change) → IsSound w → find_record r.node w.records ≡ Some r → TurnGives poll now w r a cs
    → (pid : ℕ) (code : ℤ) → code_of (find_record pid (applied w cs).records) ≡ Some code → Brings w (applied w cs) r a pid code
turn_brings poll now w r a cs s found (calculates f d is takes) = bare_turn w r a cs (ends_suit SetsNone w r (calculated f (recorded_inputs w r.node)) None None refl)
turn_brings poll now w r a cs s found (clones q calc is takes there) = bare_turn w r a cs (ends_suit SetsNone w r (ending.come_to w q) (Some q.node) None refl)
turn_brings poll now w r a cs s found (begins j q d is takes asked) = bare_turn w r a cs (refl, tt)
turn_brings poll now w r a cs s found (excepts j reason d is takes asked) = bare_turn w r a cs (ends_suit SetsNone w r (excepted reason []) None None refl)
turn_brings poll now w r a cs s found (gives_up j p reason d at asked) = bare_turn w r a cs (ends_suit SetsNone w r (excepted reason []) None None refl)
turn_brings poll now w r a cs s found (moves j p q b m d at asked next) = bare_turn w r a cs (refl, tt)
turn_brings poll now w r a cs s found (parses j p q result d at asked is) =
    let out : Parsed = parsed j (recorded_inputs w r.node) result in
    λ pid code h.
    subst (λ (v : World). Brings w v r (answer.Result result) pid code) (sym (applied_ends w r out None (Some result.code)))
    (parsed_turn w r j p q result s found d at asked is pid code
    (subst (λ (v : World). code_of (find_record pid v.records) ≡ Some code) (applied_ends w r out None (Some result.code)) h))
turn_brings poll now w r a cs s found (advances k library c env d l at e) =
    bare_turn w r a cs (advanced_suits SetsNone w r (λ s fuel d. refl) (λ s fuel. refl) k.head.outputs (advance library k r.depth env c))
turn_brings poll now w r a cs s found (binds k c d is at) = bare_turn w r a cs (refl, tt)

-- an answer with a result is one that the outside brings
brought : (o : Outside) (pid : ℕ) (n : Need) (a : TaskAnswer) (q : Request) (result : JobResult) → AnswersNeed o pid n a → a ≡ answer.Result result → n ≡ performs task.Retrieve q
    → o.brings q result
brought o pid n a q result h is at =
    let known : AnswersNeed o pid (performs task.Retrieve q) (answer.Result result)
    = subst (λ (x : Need). AnswersNeed o pid x (answer.Result result)) at (subst (AnswersNeed o pid n) is h) in
    known.known

turn_codes : (o : Outside) (pid : ℕ) (w v : World) → IsSound w → TurnOf o pid w v → AreBrought o w v
turn_codes o pid w v s t k code h =
    let given = gives_turn o.limits.poll_ms w (turn pid t.turn.answer t.turn.moment) t.changes t.turn.leads in
    let r : ProcessRecord = given.0 in
    let own : find_record r.node w.records ≡ Some r = subst (λ (n : ℕ). find_record n w.records ≡ Some r) (sym (found_node pid w.records r given.1)) given.1 in
    let answered : AnswersNeed o pid (need w r) t.turn.answer
    = subst (λ (x : Option ProcessRecord). IfSome x (λ y. AnswersNeed o pid (need w y) t.turn.answer)) given.1 t.turn.answered in
    let here : code_of (find_record k (applied w t.changes).records) ≡ Some code = subst (λ (x : World). code_of (find_record k x.records) ≡ Some code) t.after h in
    ⊎_elim (λ kept. inl kept)
    (λ b. inr (
    subst (λ (x : World). IsBrought o x k code) (sym t.after)
    (record {
      process = b.5.process;
      found = b.5.found;
      request = b.0;
      asks = b.5.asks;
      result = b.1;
      has = b.5.has;
      is_code = b.4;
      brings = brought o pid (need w r) t.turn.answer b.0 b.1 answered b.2 b.3;
    })
    )) (turn_brings o.limits.poll_ms t.turn.moment w r t.turn.answer t.changes s own given.2 k code here)

-- ---- what stays

module _ (v w : World) (s : IsSound v) (c : Continues v w) (r : ProcessRecord) (found : find_record r.node v.records ≡ Some r) where
  library_kept : (l : List Definition) → library_at v.libraries r.library ≡ Some l → library_at w.libraries r.library ≡ library_at v.libraries r.library
  library_kept l there = ap (λ (ks : List Known). library_at ks r.library) c.libraries.1 ∙ library_stays v.libraries c.libraries.0 r.library l there

  request_kept : (q : Request) → recorded_request v r ≡ Some (Gives q) → recorded_request w r ≡ Some (Gives q)
  request_kept q asked = by (library_at v.libraries r.library) refl asked
    where
      inputs : recorded_inputs w r.node ≡ recorded_inputs v r.node
      inputs = found_holds (λ x. recorded_inputs w x.node ≡ recorded_inputs v x.node) r.node v.records r c.inputs found

      by : (o : Option (List Definition)) → library_at v.libraries r.library ≡ o
          → request_by (option_and_then (definition_named r.definition) o) (recorded_inputs v r.node) ≡ Some (Gives q) → recorded_request w r ≡ Some (Gives q)
      by None is e = absurd (cc)
      by (Some l) is e = (λ i. request_by (option_and_then (definition_named r.definition) ((library_kept l is ∙ is) i)) (inputs i)) ∙ e

  -- what has an exit code has ended
  code_ends : (code : ℤ) → r.code ≡ Some code → has_ended r.state ≡ true
  code_ends code is = by (has_ended r.state) refl
    where
      fitting : IsFitting v r
      fitting = found_holds (IsFitting v) r.node v.records r s.records found

      by : (b : Bool) → has_ended r.state ≡ b → has_ended r.state ≡ true
      by true e = e
      by false e = let none = fitting.code e in absurd (cc (none, is))

  record_kept : (code : ℤ) → r.code ≡ Some code → find_record r.node w.records ≡ Some r
  record_kept code is =
      let h = found_holds (λ x. (y : ProcessRecord) × (find_record x.node w.records ≡ Some y) × Carries x y) r.node v.records r c.records found in
      h.1 ∙ ap (λ (x : ProcessRecord). Some x) (h.2.ended (code_ends code is))

  -- the recorded result stays, since the table of the later world agrees with the earlier one
  result_kept : IsSound w → (q : Request) (x : JobResult) → recorded_request v r ≡ Some (Gives q) → HasResult v r.node x → HasResult w r.node x
  result_kept later q x asked has =
      let row : result_of w r.node ≡ Some x
      = later_tables_agree v w (table_of w r.node) r.node s c (its_table_agrees w later r.node) [] r q x refl found asked has in
      (results_are_found w later r.node x).1 row

-- a result that was brought stays
brought_on : (o : Outside) (v w : World) → IsSound v → Continues v w → IsSound w → (pid : ℕ) (code : ℤ) → code_of (find_record pid v.records) ≡ Some code → IsBrought o v pid code
    → IsBrought o w pid code
brought_on o v w s c later pid code h b =
    let r : ProcessRecord = b.process in
    let number : r.node ≡ pid = found_node pid v.records r b.found in
    let own : find_record r.node v.records ≡ Some r = subst (λ (n : ℕ). find_record n v.records ≡ Some r) (sym number) b.found in
    let is : r.code ≡ Some code = sym (ap code_of b.found) ∙ h in
    subst (λ (n : ℕ). IsBrought o w n code) number
    (record {
      process = r;
      found = record_kept v w s c r own code is;
      request = b.request;
      asks = request_kept v w s c r own b.request b.asks;
      result = b.result;
      has = result_kept v w s c r own later b.request b.result b.asks (subst (λ (n : ℕ). HasResult v n b.result) (sym number) b.has);
      is_code = b.is_code;
      brings = b.brings;
    })

-- ---- turns one after another

pub turns_bring : (o : Outside) → TurnsBringCodes o
turns_bring o n m w v reached sound (none x) pid code h = inl h
turns_bring o n m w v reached sound (one_more k l x y z ts t) pid code h =
    let before : StaysSound x y = turns_sound o k l x y reached sound ts in
    let last : StaysSound y z = turn_sound o t.0 y z before.reached before.sound t.1 in
    ⊎_elim
    (λ (kept : code_of (find_record pid y.records) ≡ Some code).
    ⊎_elim (λ was. inl was) (λ b. inr (brought_on o y z before.sound last.continues last.sound pid code kept b)) (turns_bring o k l x y reached sound ts pid code kept))
    (λ b. inr b)
    (turn_codes o t.0 y z before.sound t.1 pid code h)
turns_bring o n m w v reached sound (one_rest k l x y ts r) pid code h = turns_bring o k l x y reached sound ts pid code h
