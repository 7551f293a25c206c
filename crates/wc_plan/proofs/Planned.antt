-- What words plan is ready.
use Rattle.std.proofs.Common.{◌≡◌, ◌≤◌, ℕ, List, Option, Some, None, Result, Ok, Err, subst, arith}
use Rattle.wc_state.specs.Ranges.{AreLimits}
use Rattle.wc_config.specs.declared.settings.Settings.{Settings}
use Rattle.wc_cli.specs.declared.command.Command.{Command}
use Rattle.wc_cli.specs.declared.command.Command.TheVariants.{Dry, Check, Init, Submit, Run, View, Pause, Play, Kill, Pack, Drill, Query, Expand}
use Rattle.wc_query.specs.Words.{query_of}
use Rattle.wc_query.specs.declared.error.QueryError.{QueryError}
use Rattle.wc_query.specs.declared.query.Query.{Query as Sought}
use Rattle.wc_plan.specs.declared.deed.Asked.TheVariants as asked
use Rattle.wc_plan.specs.declared.deed.Begin.TheVariants as begin
use Rattle.wc_plan.specs.declared.deed.Deed.{Deed}
use Rattle.wc_plan.specs.declared.deed.Deed.TheVariants as deed
use Rattle.wc_plan.specs.declared.deed.Plan.TheVariants as plan
use Rattle.wc_plan.specs.declared.deed.Shown.TheVariants as shown
use Rattle.wc_plan.specs.declared.deed.Work.TheVariants as work
use Rattle.wc_plan.specs.declared.status.Cause.{Cause}
use Rattle.wc_plan.specs.declared.submission.Prepared.{Prepared}
use Rattle.wc_plan.specs.declared.submission.Prepared.TheVariants as prepared
use Rattle.wc_plan.specs.Plans.{Plans, PlansSubmission, IsReadyDeed, chains_of, plan_of_prepared, plan_of_query, plan_of_run}
use Rattle.wc_plan.specs.Settings.{SettingsReady, submitted_with}
use Rattle.wc_plan.specs.Submits.{PreparesFrom}
use Rattle.wc_plan.proofs.Configured.{settings_ready, submission_ready}
use Rattle.wc_plan.proofs.Submitted.{read_ready}

same_deed : (d e : Deed) → plan.On d ≡ plan.On e → e ≡ d
same_deed d e h = cc

prepared_ready : (told : Option (List ℕ → Option (List ℕ))) (file name : List ℕ) (given : List (List ℕ × List ℕ)) (inputs : Option (List ℕ)) (t : Settings) (p : Prepared) (d : Deed)
    → AreLimits t.limits → PreparesFrom told file name given inputs p → plan.On d ≡ plan_of_prepared t p → IsReadyDeed d
prepared_ready told file name given inputs t (prepared.Refused c) d limits prepares is = absurd (cc)
prepared_ready told file name given inputs t (prepared.Submits i) d limits prepares is =
    subst IsReadyDeed (same_deed d (deed.Work (work.Event (asked.Submit (submitted_with t i)))) is)
    (submission_ready t i (read_ready told inputs name given prepares.0 (prepared.Submits i) prepares.2) limits)

planned_ready : (told : Option (List ℕ → Option (List ℕ))) (file name : List ℕ) (given : List (List ℕ × List ℕ)) (inputs : Option (List ℕ)) (s : Result Settings Cause) (d : Deed) → SettingsReady s
    → PlansSubmission told file name given inputs s (plan.On d) → IsReadyDeed d
planned_ready told file name given inputs (Err c) d limits p = absurd (cc)
planned_ready told file name given inputs (Ok t) d limits p = prepared_ready told file name given inputs t p.0 d limits p.1 p.2

run_ready : (turns seed : ℕ) (s : Result Settings Cause) (d : Deed) → SettingsReady s → plan.On d ≡ plan_of_run turns seed s → IsReadyDeed d
run_ready turns seed (Err c) d limits is = absurd (cc)
run_ready turns seed (Ok t) d limits is = subst IsReadyDeed (same_deed d _ is) limits

few_chains : (count : ℕ) → chains_of count ≤ 10000
few_chains count = grind arith

query_ready : (limit : ℕ) (r : Result Sought QueryError) (d : Deed) → plan.On d ≡ plan_of_query limit r → IsReadyDeed d
query_ready limit (Err e) d is = absurd (cc)
query_ready limit (Ok query) d is = subst IsReadyDeed (same_deed d (deed.Work (work.View (shown.Query query limit))) is) tt

pub plan_ready : (told : Option (List ℕ → Option (List ℕ))) (command : Option Command) (d : Deed) → Plans told command (plan.On d) → IsReadyDeed d
plan_ready told None d p = absurd (cc)
plan_ready told (Some (Check file)) d p = absurd (cc p.2)
plan_ready told (Some (Dry file name given inputs table fuel)) d p = absurd (cc p.4)
plan_ready told (Some Init) d p = subst IsReadyDeed (same_deed d _ p) tt
plan_ready told (Some (Submit file name given inputs settings)) d p =
    planned_ready told file name given inputs p.0 d (settings_ready told settings p.0 p.1) p.2
plan_ready told (Some (Pause pid)) d p = subst IsReadyDeed (same_deed d _ p) tt
plan_ready told (Some (Play pid)) d p = subst IsReadyDeed (same_deed d _ p) tt
plan_ready told (Some (Kill pid)) d p = subst IsReadyDeed (same_deed d _ p) tt
plan_ready told (Some (Run turns seed settings)) d p = run_ready turns seed p.0 d (settings_ready told settings p.0 p.1) p.2
plan_ready told (Some (View v)) d p = subst IsReadyDeed (same_deed d _ p) tt
plan_ready told (Some Pack) d p = subst IsReadyDeed (same_deed d _ p) tt
plan_ready told (Some (Drill seed count)) d p = subst IsReadyDeed (same_deed d (deed.Begin (begin.Drill seed (chains_of count))) p) (few_chains count)
plan_ready told (Some (Query words limit)) d p = query_ready limit (query_of words) d p
plan_ready told (Some (Expand file spec)) d p = absurd (cc p.4)
