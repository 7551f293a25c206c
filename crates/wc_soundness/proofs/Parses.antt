-- A job that retrieves its result is parsed, and ends with it.
use Rattle.std.proofs.Common.{◌≡◌, ◌≢◌, ℕ, zero, suc, true, false, Option, Some, None, List, [], ◌∷◌, refl, sym, ap, subst, ◌∙◌, arith}
use Rattle.std.specs.Prelude.{codes, option_map, option_and_then}
use Rattle.wc_value.specs.Ascending.{lookup}
use Rattle.wc_value.specs.Spelling.{depth}
use Rattle.wc_value.specs.declared.process.JobResult.{JobResult}
use Rattle.wc_value.specs.declared.process.ProcessState.TheVariants as state
use Rattle.wc_value.specs.declared.process.Request.{Request}
use Rattle.wc_value.specs.declared.value.Value.{Value, out-Value, out-roll-Value}
use Rattle.wc_value.specs.declared.value.Value.TheOpen.{Value-F}
use Rattle.wc_value.specs.declared.value.Value.TheVariants as value
use Rattle.wc_value.specs.declared.value.Value.TheVariants.{rolls-Folder}
use Rattle.wc_value.proofs.Depths.{depth_folder}
use Rattle.wc_syntax.specs.Findings.{definition_named}
use Rattle.wc_syntax.specs.declared.definition.Definition.{Definition}
use Rattle.wc_syntax.specs.declared.definition.Definition.TheVariants as definition
use Rattle.wc_syntax.specs.declared.definition.Job.{Job}
use Rattle.wc_expression.specs.declared.outcome.Outcome.{Outcome}
use Rattle.wc_expression.specs.declared.outcome.Outcome.TheVariants.{Gives}
use Rattle.wc_semantics.specs.Outcomes.{parse_env, parsed, retrieved}
use Rattle.wc_semantics.specs.Requests.{request}
use Rattle.wc_semantics.specs.Rules.{Values, run_rules}
use Rattle.wc_semantics.specs.declared.outcomes.Parsed.{Parsed}
use Rattle.wc_semantics.specs.Meaning.{by_kill, by_result, job as job_by, leaf, meaning, surrounding}
use Rattle.wc_semantics.specs.Tables.{Table, Kills, under}
use Rattle.wc_semantics.specs.declared.progress.Answer.{Answer}
use Rattle.wc_semantics.specs.declared.progress.Answer.TheVariants.{Gave}
use Rattle.wc_state.specs.declared.record.ProcessKind.{ProcessKind}
use Rattle.wc_state.specs.declared.record.ProcessKind.TheVariants as kind
use Rattle.wc_state.specs.declared.record.ProcessRecord.{ProcessRecord}
use Rattle.wc_world.specs.World.{World}
use Rattle.wc_world.specs.Consistent.{Stands}
use Rattle.wc_world.specs.Fits.{is_of_kind, part_fits}
use Rattle.wc_world.specs.Records.{find_record, has_ended, library_at, same_kind}
use Rattle.wc_world.proofs.FoundRecords.{found_holds}
use Rattle.wc_machine.specs.Agreement.{Agrees}
use Rattle.wc_machine.specs.Created.{GivenFor, job}
use Rattle.wc_machine.specs.Recorded.{Contents, HasResult, own, folder_of, folder_seen, its_definition, recorded_inputs, recorded_outputs, recorded_request, request_by, retrieved_folder}
use Rattle.wc_machine.specs.Rest.{levels_of, meant}
use Rattle.wc_machine.specs.Submissions.{AreInputs}
use Rattle.wc_machine.proofs.CalculatedOutputs.{concluded_set, nothing_set, rules_set, set_more}
use Rattle.wc_machine.proofs.Endings.{applied_ends, end_record, ended_world}
use Rattle.wc_machine.proofs.EndedWorlds.{found_end, inputs_kept, outputs_of_end}
use Rattle.wc_machine.proofs.FunctionEnds.{concluded_alive, concluded_ends}
use Rattle.wc_machine.proofs.FunctionMeaning.{definition_parts}
use Rattle.wc_soundness.specs.JobLaws.{ParsesAreSafe}
use Rattle.wc_soundness.proofs.FaultingJobs.{job_calculates}
use Rattle.wc_soundness.proofs.FreeNames.{retrieved_is_free}
use Rattle.wc_soundness.proofs.Retrieved.{retrieved_stays}
use Rattle.wc_soundness.proofs.SoundEnds.{ends_safe}
use Rattle.wc_soundness.proofs.Tasks.{job_waits}

-- ---- its outputs

abbrev opened : Contents → Value-F Value
opened files = Value-F.Folder files

folder_opens : (files : Contents) → out-Value (value.Folder files) ≡ opened files
folder_opens files = ap out-Value (sym (rolls-Folder files)) ∙ out-roll-Value (Value-F.Folder files)

retrieved_set : (result : JobResult) → AreInputs (retrieved result)
retrieved_set result =
    let one : depth (value.Folder result.files) ≡ 1 = depth_folder result.files in
    set_more (codes "retrieved") (value.Folder result.files) [] (omega arith) nothing_set

parsed_set : (j : Job) (inputs : Values) (result : JobResult) → AreInputs (parsed j inputs result).outputs
parsed_set j inputs result =
    concluded_set j.head.outputs (retrieved result) (run_rules j.head.outputs j.parse (parse_env inputs result) (retrieved result)) (retrieved_set result)
    (λ end h. rules_set j.head.outputs j.parse (parse_env inputs result) (retrieved result) end (retrieved_set result) h)

-- ---- what it means

job_gives : (levels : ℕ) (library : List Definition) (table : Table) (cuts : Kills) (n : ℕ) (name : List ℕ) (inputs : Values) (j : Job) (q : Request) (result : JobResult)
    → definition_named name library ≡ Some (definition.Job j) → cuts [] ≡ None → request j inputs ≡ Gives q → table [] q ≡ Some result
    → meaning levels library table cuts n name inputs ≡ Gave (leaf name (parsed j inputs result) (([], q) ∷ [])) n
job_gives zero library table cuts n name inputs j q result d none asked row =
    (λ i. by_kill (none i) (d i) (surrounding library None) (table []) n name inputs)
    ∙ ap (λ (o : Outcome Request). job_by name o (parsed j inputs) (table []) n) asked
    ∙ ap (λ (x : Option JobResult). by_result name (parsed j inputs) q x n) row
job_gives (suc levels) library table cuts n name inputs j q result d none asked row =
    (λ i. by_kill (none i) (d i) (surrounding library (Some (λ l. meaning levels library (under l table) (under l cuts)))) (table []) n name inputs)
    ∙ ap (λ (o : Outcome Request). job_by name o (parsed j inputs) (table []) n) asked
    ∙ ap (λ (x : Option JobResult). by_result name (parsed j inputs) q x n) row

meant_gives : (w : World) (r : ProcessRecord) (j : Job) (q : Request) (result : JobResult) → its_definition w r ≡ Some (definition.Job j)
    → request j (recorded_inputs w r.node) ≡ Gives q → (table : Table) (cuts : Kills) (n : ℕ) → cuts [] ≡ None → table [] q ≡ Some result
    → meant w r table cuts n ≡ Some (Gave (leaf r.definition (parsed j (recorded_inputs w r.node) result) (([], q) ∷ [])) n)
meant_gives w r j q result h asked table cuts n none row =
    let d = definition_parts r.definition (library_at w.libraries r.library) (definition.Job j) h in
    ap (option_map (λ library. meaning (levels_of r) library table cuts n r.definition (recorded_inputs w r.node))) d.1
    ∙ ap (λ (a : Answer). Some a) (job_gives (levels_of r) d.0 table cuts n r.definition (recorded_inputs w r.node) j q result d.2 none asked row)

-- ---- its end

kind_is_job : (k : ProcessKind) → same_kind kind.Job k ≡ true → k ≡ kind.Job
kind_is_job kind.Function h = absurd (cc)
kind_is_job kind.Job h = refl
kind_is_job kind.Chain h = absurd (cc)

not_created : state.Waiting ≡ state.Created → ⊥
not_created h = cc

pub parses_safe : ParsesAreSafe
parses_safe w r j p q result s found d is asked =
    let inputs : Values = recorded_inputs w r.node in
    let out : Parsed = parsed j inputs result in
    let v : World = ended_world w r out None (Some result.code) in
    let y : ProcessRecord = end_record w r out None (Some result.code) r in
    let stands : Stands w r = found_holds (Stands w) r.node w.records r s.consistent.records found in
    let defined : same_kind kind.Job r.kind ≡ true = ap (is_of_kind r.kind) (sym d) ∙ stands.defined in
    let waiting : r.state ≡ state.Waiting = (job_waits r.kind r.state p p (ap (part_fits r.kind r.state) (sym is) ∙ stands.part)).0 in
    let live : has_ended r.state ≡ false = ap has_ended waiting in
    let over : has_ended out.state ≡ true = concluded_ends j.head.outputs (retrieved result) (run_rules j.head.outputs j.parse (parse_env inputs result) (retrieved result)) in
    let alive : out.state ≢ state.Killed = concluded_alive j.head.outputs (retrieved result) (run_rules j.head.outputs j.parse (parse_env inputs result) (retrieved result)) in
    let set : AreInputs out.outputs = parsed_set j inputs result in
    let there : find_record r.node v.records ≡ Some y = found_end w r out None (Some result.code) found in
    let same : recorded_inputs v r.node ≡ inputs = inputs_kept w r out None (Some result.code) s.consistent r.node in
    let outputs : recorded_outputs v r.node ≡ out.outputs = outputs_of_end w r out None (Some result.code) s.consistent found live set in
    let folder : retrieved_folder v r.node ≡ Some result.files
    = ap (λ (os : Values). option_and_then folder_of (lookup (codes "retrieved") os)) outputs
    ∙ ap (option_and_then folder_of) (retrieved_stays j inputs result (retrieved_is_free w r j s d)) ∙ ap folder_seen (folder_opens result.files) in
    let again : request j (recorded_inputs v r.node) ≡ Gives q = ap (request j) same ∙ asked in
    let has : HasResult v r.node result = own y result.code result.files there (kind_is_job r.kind defined) refl folder in
    let given : GivenFor v r.node out
    = subst (λ (xs : Values). GivenFor v r.node (parsed j xs result)) same (job y j q result.code result.files there alive refl d refl folder again) in
    let recorded : recorded_request v y ≡ Some (Gives q)
    = ap (λ (x : Option Definition). request_by x (recorded_inputs v r.node)) d ∙ ap (λ (x : Outcome Request). Some x) again in
    ends_safe w r out (Some result.code) s found (job_calculates r.kind defined) live
    (record {
      over = over;
      alive = alive;
      outputs = set;
      starts = λ created on. absurd (not_created (sym waiting ∙ created));
      given = subst (λ (u : World). GivenFor u r.node out) (sym (applied_ends w r out None (Some result.code))) given;
      means = λ table cuts agrees none.
          let here : Agrees table v r.node = subst (λ (u : World). Agrees table u r.node) (applied_ends w r out None (Some result.code)) agrees in
          let row : table [] q ≡ Some result = here [] y q result refl there recorded has in
          (([], q) ∷ [], r.fuel, meant_gives w r j q result d asked table cuts r.fuel none row);
    })
