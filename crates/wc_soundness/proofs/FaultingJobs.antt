-- A job whose request is a reason excepts with it.
use Rattle.std.proofs.Common.{◌≡◌, ℕ, zero, suc, ◌+◌, true, Option, Some, None, List, [], length, refl, sym, ap, subst, ◌∙◌, arith}
use Rattle.std.specs.Prelude.{option_map}
use Rattle.wc_value.specs.declared.process.ProcessState.TheVariants as state
use Rattle.wc_value.specs.declared.process.Reason.{Reason}
use Rattle.wc_value.specs.declared.process.Request.{Request}
use Rattle.wc_syntax.specs.Findings.{definition_named}
use Rattle.wc_syntax.specs.declared.definition.Definition.{Definition}
use Rattle.wc_syntax.specs.declared.definition.Definition.TheVariants as definition
use Rattle.wc_syntax.specs.declared.definition.Job.{Job}
use Rattle.wc_expression.specs.declared.outcome.Outcome.{Outcome}
use Rattle.wc_expression.specs.declared.outcome.Outcome.TheVariants.{Faults}
use Rattle.wc_semantics.specs.Outcomes.{excepted, parsed}
use Rattle.wc_semantics.specs.Requests.{request}
use Rattle.wc_semantics.specs.Rules.{Values}
use Rattle.wc_semantics.specs.declared.outcomes.Parsed.{Parsed}
use Rattle.wc_semantics.specs.Meaning.{by_kill, job, leaf, meaning, surrounding}
use Rattle.wc_semantics.specs.Tables.{Table, Kills, under}
use Rattle.wc_semantics.specs.declared.progress.Answer.{Answer}
use Rattle.wc_semantics.specs.declared.progress.Answer.TheVariants.{Gave}
use Rattle.wc_state.specs.declared.record.ProcessKind.{ProcessKind}
use Rattle.wc_state.specs.declared.record.ProcessKind.TheVariants as kind
use Rattle.wc_state.specs.declared.record.ProcessRecord.{ProcessRecord}
use Rattle.wc_world.specs.World.{World}
use Rattle.wc_world.specs.Consistent.{Stands}
use Rattle.wc_world.specs.Fits.{is_of_kind}
use Rattle.wc_world.specs.Records.{has_ended, is_calculation, library_at, same_kind}
use Rattle.wc_world.proofs.FoundRecords.{found_holds}
use Rattle.wc_machine.specs.Created.{GivenFor, no_request}
use Rattle.wc_machine.specs.Ends.{ends}
use Rattle.wc_machine.specs.Recorded.{its_definition, recorded_inputs, recorded_request, request_by}
use Rattle.wc_machine.specs.Rest.{levels_of, meant}
use Rattle.wc_machine.specs.Sound.{IsFitting, is_job_part}
use Rattle.wc_machine.proofs.CalculatedOutputs.{nothing_set}
use Rattle.wc_machine.proofs.Endings.{applied_ends, end_record, ended_world}
use Rattle.wc_machine.proofs.EndedWorlds.{found_end, inputs_kept}
use Rattle.wc_machine.proofs.FunctionMeaning.{definition_parts}
use Rattle.wc_soundness.specs.JobLaws.{FaultingJobsAreSafe, WaitingJobsAsk}
use Rattle.wc_soundness.specs.Sets.{AreSafeWithin}
use Rattle.wc_soundness.proofs.SoundEnds.{ends_safe}

-- ---- what it means

job_excepts : (levels : ℕ) (library : List Definition) (table : Table) (cuts : Kills) (n : ℕ) (name : List ℕ) (inputs : Values) (j : Job) (reason : Reason)
    → definition_named name library ≡ Some (definition.Job j) → cuts [] ≡ None → request j inputs ≡ Faults reason
    → meaning levels library table cuts n name inputs ≡ Gave (leaf name (excepted reason []) []) n
job_excepts zero library table cuts n name inputs j reason d none asked =
    (λ i. by_kill (none i) (d i) (surrounding library None) (table []) n name inputs) ∙ ap (λ (o : Outcome Request). job name o (parsed j inputs) (table []) n) asked
job_excepts (suc levels) library table cuts n name inputs j reason d none asked =
    (λ i. by_kill (none i) (d i) (surrounding library (Some (λ l. meaning levels library (under l table) (under l cuts)))) (table []) n name inputs)
    ∙ ap (λ (o : Outcome Request). job name o (parsed j inputs) (table []) n) asked

meant_excepts : (w : World) (r : ProcessRecord) (j : Job) (reason : Reason) → its_definition w r ≡ Some (definition.Job j) → request j (recorded_inputs w r.node) ≡ Faults reason
    → (table : Table) (cuts : Kills) (n : ℕ) → cuts [] ≡ None → meant w r table cuts n ≡ Some (Gave (leaf r.definition (excepted reason []) []) n)
meant_excepts w r j reason h asked table cuts n none =
    let d = definition_parts r.definition (library_at w.libraries r.library) (definition.Job j) h in
    ap (option_map (λ library. meaning (levels_of r) library table cuts n r.definition (recorded_inputs w r.node))) d.1
    ∙ ap (λ (a : Answer). Some a) (job_excepts (levels_of r) d.0 table cuts n r.definition (recorded_inputs w r.node) j reason d.2 none asked)

-- ---- its end

pub job_calculates : (k : ProcessKind) → same_kind kind.Job k ≡ true → is_calculation k ≡ true
job_calculates kind.Function h = absurd (cc)
job_calculates kind.Job h = refl
job_calculates kind.Chain h = absurd (cc)

excepted_lives : (reason : Reason) → state.Excepted reason ≡ state.Killed → ⊥
excepted_lives reason h = cc

pub faulting_jobs_safe : FaultingJobsAreSafe
faulting_jobs_safe w r j reason s found d created source asked =
    let p : Parsed = excepted reason [] in
    let stands : Stands w r = found_holds (Stands w) r.node w.records r s.consistent.records found in
    let calculates : is_calculation r.kind ≡ true = job_calculates r.kind (ap (is_of_kind r.kind) (sym d) ∙ stands.defined) in
    let again : request j (recorded_inputs (ended_world w r p None None) r.node) ≡ Faults reason = ap (request j) (inputs_kept w r p None None s.consistent r.node) ∙ asked in
    let given : GivenFor (ended_world w r p None None) r.node p
    = no_request (end_record w r p None None r) j reason (found_end w r p None None found) (excepted_lives reason) refl d refl again in
    let few : length w.nodes + length p.outputs ≡ length w.nodes = omega arith in
    subst (λ (n : ℕ). AreSafeWithin n w (ends w r p None None)) few
    (ends_safe w r p None s found calculates (ap has_ended created)
    (record {
      over = refl;
      alive = excepted_lives reason;
      outputs = nothing_set;
      starts = λ was on. source.on on;
      given = subst (λ (u : World). GivenFor u r.node p) (sym (applied_ends w r p None None)) given;
      means = λ table cuts agrees none. ([], r.fuel, meant_excepts w r j reason d asked table cuts r.fuel none);
    }))

pub waiting_jobs_ask : WaitingJobsAsk
waiting_jobs_ask w r j p reason s found d is asked =
    let fitting : IsFitting w r = found_holds (IsFitting w) r.node w.records r s.records found in
    let q = fitting.request (ap is_job_part is) in
    let faults : recorded_request w r ≡ Some (Faults reason)
    = ap (λ (x : Option Definition). request_by x (recorded_inputs w r.node)) d ∙ ap (λ (x : Outcome Request). Some x) asked in
    let both = sym q.1 ∙ faults in
    absurd (cc both)
