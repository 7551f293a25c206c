-- The statuses of replies that words plan.
use Rattle.std.proofs.Common.{◌≡◌, ℕ, List, Option, Some, None, Result, Ok, Err, sym, subst}
use Rattle.wc_syntax.specs.declared.definition.Definition.{Definition}
use Rattle.wc_syntax.specs.declared.definition.Port.{Port}
use Rattle.wc_syntax.specs.Findings.{head_of, definition_named}
use Rattle.wc_semantics.specs.declared.progress.Answer.{Answer}
use Rattle.wc_semantics.specs.declared.progress.Answer.TheVariants.{Gave, TooLittle, Without, Astray}
use Rattle.wc_semantics.specs.Tables.{plain, no_kills}
use Rattle.wc_semantics.specs.Meaning.{meaning}
use Rattle.wc_config.specs.declared.settings.Settings.{Settings}
use Rattle.wc_cli.specs.declared.command.Command.{Command}
use Rattle.wc_cli.specs.declared.command.Command.TheVariants.{Check, Dry, Init, Submit, Run, View, Pause, Play, Kill, Pack, Drill, Query, Expand}
use Rattle.wc_query.specs.Words.{query_of}
use Rattle.wc_query.specs.declared.error.QueryError.{QueryError}
use Rattle.wc_query.specs.declared.query.Query.{Query as Sought}
use Rattle.wc_value.specs.declared.value.Value.{Value}
use Rattle.wc_json.specs.Tables.{Row}
use Rattle.wc_plan.specs.declared.commands.dry.Trial.{Trial}
use Rattle.wc_plan.specs.declared.status.Cause.{Cause}
use Rattle.wc_plan.specs.declared.libraries.Read.{Read}
use Rattle.wc_plan.specs.declared.libraries.Read.TheVariants as read
use Rattle.wc_plan.specs.declared.deed.Plan.TheVariants as plan
use Rattle.wc_plan.specs.declared.reply.Reply.{Reply}
use Rattle.wc_plan.specs.declared.status.Cause.TheVariants as cause
use Rattle.wc_plan.specs.declared.status.Status.{Status}
use Rattle.wc_plan.specs.declared.status.Status.TheVariants as status
use Rattle.wc_plan.specs.Given.{bad_given, fields_of}
use Rattle.wc_plan.specs.Dry.{owed_answer, owed_inputs, owed_rows, owed_check, OwesRows, OwesDefinition, OwesDry}
use Rattle.wc_handlers.specs.declared.error.RestartError.{RestartError}
use Rattle.wc_handlers.specs.declared.spec.Spec.{Spec}
use Rattle.wc_handlers.specs.Reading.{spec_in}
use Rattle.wc_restart.specs.Judging.{refusal}
use Rattle.wc_plan.specs.Expand.{owed_chain, owed_spec, owed_content, OwesExpand}
use Rattle.wc_plan.specs.Plans.{Plans, PlansSubmission, plan_of_prepared, plan_of_query, plan_of_run}
use Rattle.wc_plan.specs.Replies.{refuses, IsReplied}
use Rattle.wc_plan.specs.declared.submission.Prepared.{Prepared}
use Rattle.wc_plan.specs.declared.submission.Prepared.TheVariants as prepared

-- the work was done, or refused
abbrev pub IsDoneOrRefused : Status → Type 0
IsDoneOrRefused status.Ok = Unit {0}
IsDoneOrRefused (status.Refused c) = Unit {0}
IsDoneOrRefused _ = ⊥

pub is_replied : (s : Status) → IsDoneOrRefused s → IsReplied s
is_replied status.Ok h = tt
is_replied (status.Refused c) h = tt
is_replied status.OutOfMemory h = h
is_replied status.Spent h = absurd h
is_replied status.Resting h = absurd h
is_replied status.DiskFault h = h
is_replied (status.Damaged disk at found) h = absurd h
is_replied status.ReadFault h = h
is_replied status.WriteFault h = h
is_replied (status.Full what count limit) h = absurd h
is_replied (status.Unsound f) h = absurd h

same_reply : (r s : Reply) → plan.Reply r ≡ plan.Reply s → r ≡ s
same_reply r s is = cc

-- so was each reply for which no disk is asked
abbrev pub HasReplied : Reply → Type 0
HasReplied r = IsDoneOrRefused r.status

answer_replied : (a : Answer) → HasReplied (owed_answer a)
answer_replied (Gave r left) = tt
answer_replied (Without q) = tt
answer_replied TooLittle = tt
answer_replied Astray = tt

inputs_replied : (bad : Option (List ℕ)) (ports : List Port) (library : List Definition) (name : List ℕ) (given : List (List ℕ × List ℕ)) (file : List (List ℕ × Value)) (rows : List Row) (fuel : ℕ)
    → HasReplied (owed_inputs bad ports library name given file rows fuel)
inputs_replied (Some port) ports library name given file rows fuel = tt
inputs_replied None ports library name given file rows fuel = answer_replied (meaning 15 library (plain rows) no_kills fuel name (fields_of ports given file))

rows_replied : (t : Result (List Row) Cause) (ports : List Port) (library : List Definition) (name : List ℕ) (given : List (List ℕ × List ℕ)) (file : List (List ℕ × Value)) (fuel : ℕ)
    → HasReplied (owed_rows t ports library name given file fuel)
rows_replied (Ok rows) ports library name given file fuel = inputs_replied (bad_given ports given file) ports library name given file rows fuel
rows_replied (Err c) ports library name given file fuel = tt

file_replied : (told : Option (List ℕ → Option (List ℕ))) (t : Trial) (file : Result (List (List ℕ × Value)) Cause) (ports : List Port) (library : List Definition) (r : Reply)
    → OwesRows told t file ports library r → HasReplied r
file_replied told t (Ok file) ports library r o = subst HasReplied (sym o.2) (rows_replied o.0 ports library t.name t.given file t.fuel)
file_replied told t (Err c) ports library r o = subst HasReplied (sym o) tt

definition_replied : (told : Option (List ℕ → Option (List ℕ))) (t : Trial) (d : Option Definition) (library : List Definition) (r : Reply) → OwesDefinition told t d library r → HasReplied r
definition_replied told t None library r o = subst HasReplied (sym o) tt
definition_replied told t (Some d) library r o = file_replied told t o.0 (head_of d).inputs library r o.2

dry_replied : (told : Option (List ℕ → Option (List ℕ))) (t : Trial) (x : Read) (r : Reply) → OwesDry told t x r → HasReplied r
dry_replied told t (read.Refused c) r o = subst HasReplied (sym o) tt
dry_replied told t (read.Library library) r o = definition_replied told t (definition_named t.name library) library r o

check_replied : (r : Read) → HasReplied (owed_check r)
check_replied (read.Refused c) = tt
check_replied (read.Library library) = tt

-- a prepared submission that is refused
prepared_replied : (t : Settings) (p : Prepared) (r : Reply) → plan_of_prepared t p ≡ plan.Reply r → HasReplied r
prepared_replied t (prepared.Refused c) r is = subst HasReplied (same_reply (refuses c) r is) tt
prepared_replied t (prepared.Submits i) r is = absurd (cc)

submission_replied : (told : Option (List ℕ → Option (List ℕ))) (file name : List ℕ) (given : List (List ℕ × List ℕ)) (inputs : Option (List ℕ)) (s : Result Settings Cause) (r : Reply)
    → PlansSubmission told file name given inputs s (plan.Reply r) → HasReplied r
submission_replied told file name given inputs (Err c) r p = subst HasReplied (same_reply (refuses c) r (sym p)) tt
submission_replied told file name given inputs (Ok t) r p = prepared_replied t p.0 r (sym p.2)

-- a run that is refused
run_refused : (turns seed : ℕ) (s : Result Settings Cause) (r : Reply) → plan_of_run turns seed s ≡ plan.Reply r → HasReplied r
run_refused turns seed (Err c) r is = subst HasReplied (same_reply (refuses c) r is) tt
run_refused turns seed (Ok t) r is = absurd (cc)

-- a query that is refused
query_refused : (limit : ℕ) (q : Result Sought QueryError) (r : Reply) → plan_of_query limit q ≡ plan.Reply r → HasReplied r
query_refused limit (Err e) r is = subst HasReplied (same_reply (refuses (cause.Query e)) r is) tt
query_refused limit (Ok query) r is = absurd (cc)

-- an expansion
chain_replied : (library : List Definition) (s : Spec) (e : Option RestartError) → HasReplied (owed_chain library s e)
chain_replied library s None = tt
chain_replied library s (Some e) = tt

spec_replied : (library : List Definition) (s : Result Spec RestartError) → HasReplied (owed_spec library s)
spec_replied library (Ok s) = chain_replied library s (refusal library s)
spec_replied library (Err e) = tt

content_replied : (library : List Definition) (spec : List ℕ) (content : Option (List ℕ)) → HasReplied (owed_content library spec content)
content_replied library spec None = tt
content_replied library spec (Some bytes) = spec_replied library (spec_in bytes)

expand_replied : (told : Option (List ℕ → Option (List ℕ))) (spec : List ℕ) (x : Read) (r : Reply) → OwesExpand told spec x r → HasReplied r
expand_replied told spec (read.Refused c) r o = subst HasReplied (sym o) tt
expand_replied told spec (read.Library library) r o = subst HasReplied (sym o.2) (content_replied library spec o.0)

pub told_replied : (told : Option (List ℕ → Option (List ℕ))) (command : Option Command) (r : Reply) → Plans told command (plan.Reply r) → HasReplied r
told_replied told None r p = subst HasReplied (same_reply (refuses cause.Words) r (sym p)) tt
told_replied told (Some (Check file)) r p = subst HasReplied (same_reply (owed_check p.0) r (sym p.2)) (check_replied p.0)
told_replied told (Some (Dry file name given inputs table fuel)) r p =
    subst HasReplied (same_reply p.2 r (sym p.4)) (dry_replied told (record { name = name; given = given; inputs = inputs; table = table; fuel = fuel }) p.0 p.2 p.3)
told_replied told (Some Init) r p = absurd (cc)
told_replied told (Some (Submit file name given inputs settings)) r p = submission_replied told file name given inputs p.0 r p.2
told_replied told (Some (Pause pid)) r p = absurd (cc)
told_replied told (Some (Play pid)) r p = absurd (cc)
told_replied told (Some (Kill pid)) r p = absurd (cc)
told_replied told (Some (Run turns seed settings)) r p = run_refused turns seed p.0 r (sym p.2)
told_replied told (Some (View v)) r p = absurd (cc)
told_replied told (Some Pack) r p = absurd (cc)
told_replied told (Some (Drill seed count)) r p = absurd (cc)
told_replied told (Some (Query words limit)) r p = query_refused limit (query_of words) r (sym p)
told_replied told (Some (Expand file spec)) r p = subst HasReplied (same_reply p.2 r (sym p.4)) (expand_replied told spec p.0 p.2 p.3)
