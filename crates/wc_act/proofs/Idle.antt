-- Words that are no `run` plan no turns with the transport and the clock that are handed in.
use Rattle.std.proofs.Common.{◌≡◌, ℕ, List, Option, Some, None, Result, Ok, Err, sym, subst}
use Rattle.wc_config.specs.declared.settings.Settings.{Settings}
use Rattle.wc_cli.specs.declared.command.Command.{Command}
use Rattle.wc_cli.specs.declared.command.Command.TheVariants.{Dry, Check, Init, Submit, Run, View, Pause, Play, Kill, Pack, Drill, Query, Expand}
use Rattle.wc_plan.specs.Words.{query_of}
use Rattle.wc_plan.specs.QueryError.{QueryError}
use Rattle.wc_matches.specs.Query.{Query as Sought}
use Rattle.wc_plan.specs.declared.deed.Plan.{Plan}
use Rattle.wc_plan.specs.declared.deed.Plan.TheVariants as plan
use Rattle.wc_plan.specs.declared.status.Cause.{Cause}
use Rattle.wc_plan.specs.declared.submission.Prepared.{Prepared}
use Rattle.wc_plan.specs.declared.submission.Prepared.TheVariants as prepared
use Rattle.wc_plan.specs.Plans.{Plans, PlansSubmission, plan_of_prepared, plan_of_query}
use Rattle.wc_act.specs.Outside.{TakesNoTurns, IsIdle}

abbrev pub IsIdlePlan : Plan → Type 0
IsIdlePlan (plan.Reply r) = Unit {0}
IsIdlePlan (plan.On d) = IsIdle d

idle_is : (p q : Plan) → p ≡ q → IsIdlePlan q → IsIdlePlan p
idle_is p q is idle = subst IsIdlePlan (sym is) idle

prepared_idle : (t : Settings) (q : Prepared) → IsIdlePlan (plan_of_prepared t q)
prepared_idle t (prepared.Refused c) = tt
prepared_idle t (prepared.Submits i) = tt

submission_idle : (told : Option (List ℕ → Option (List ℕ))) (file name : List ℕ) (given : List (List ℕ × List ℕ)) (inputs : Option (List ℕ)) (s : Result Settings Cause) (p : Plan)
    → PlansSubmission told file name given inputs s p → IsIdlePlan p
submission_idle told file name given inputs (Err c) p is = idle_is p _ is tt
submission_idle told file name given inputs (Ok t) p (q, prepares, is) = idle_is p (plan_of_prepared t q) is (prepared_idle t q)

query_idle : (limit : ℕ) (q : Result Sought QueryError) (p : Plan) → p ≡ plan_of_query limit q → IsIdlePlan p
query_idle limit (Err e) p is = idle_is p _ is tt
query_idle limit (Ok query) p is = idle_is p _ is tt

pub plan_idle : (told : Option (List ℕ → Option (List ℕ))) (c : Option Command) (p : Plan) → Plans told c p → TakesNoTurns c → IsIdlePlan p
plan_idle told None p is none = idle_is p _ is tt
plan_idle told (Some (Check file)) p (r, reads, is) none = idle_is p _ is tt
plan_idle told (Some (Dry file name given inputs table fuel)) p (r, reads, reply, owes, is) none = idle_is p _ is tt
plan_idle told (Some Init) p is none = idle_is p _ is tt
plan_idle told (Some (Submit file name given inputs settings)) p (s, from, plans) none = submission_idle told file name given inputs s p plans
plan_idle told (Some (Run turns seed settings)) p plans none = absurd none
plan_idle told (Some (View v)) p is none = idle_is p _ is tt
plan_idle told (Some (Pause pid)) p is none = idle_is p _ is tt
plan_idle told (Some (Play pid)) p is none = idle_is p _ is tt
plan_idle told (Some (Kill pid)) p is none = idle_is p _ is tt
plan_idle told (Some Pack) p is none = idle_is p _ is tt
plan_idle told (Some (Drill seed count)) p is none = idle_is p _ is tt
plan_idle told (Some (Query words limit)) p is none = query_idle limit (query_of words) p is
plan_idle told (Some (Expand file spec)) p (r, reads, reply, owes, is) none = idle_is p _ is tt
