-- What words plan.
use Rattle.std.specs.Prelude.{◌≡◌, ◌≤◌, ℕ, min, List, Option, Some, None, Result, Ok, Err}
use Rattle.wc_state.specs.Ranges.{AreLimits}
use Rattle.wc_config.specs.declared.settings.Settings.{Settings}
use Rattle.wc_cli.specs.declared.command.Command.{Command}
use Rattle.wc_cli.specs.declared.command.Command.TheVariants.{Dry, Check, Init, Submit, Run, View, Pause, Play, Kill, Pack, Drill, Query, Expand}
use Rattle.wc_query.specs.Words.{query_of}
use Rattle.wc_query.specs.declared.error.QueryError.{QueryError}
use Rattle.wc_query.specs.declared.query.Query.{Query as Sought}
use Rattle.wc_plan.specs.declared.deed.Asked.{Asked}
use Rattle.wc_plan.specs.declared.deed.Asked.TheVariants as asked
use Rattle.wc_plan.specs.declared.deed.Begin.{Begin}
use Rattle.wc_plan.specs.declared.deed.Begin.TheVariants as begin
use Rattle.wc_plan.specs.declared.deed.Deed.{Deed}
use Rattle.wc_plan.specs.declared.deed.Deed.TheVariants as deed
use Rattle.wc_plan.specs.declared.deed.Shown.TheVariants as shown
use Rattle.wc_plan.specs.declared.deed.Work.{Work}
use Rattle.wc_plan.specs.declared.deed.Work.TheVariants as work
use Rattle.wc_plan.specs.declared.deed.Plan.{Plan}
use Rattle.wc_plan.specs.declared.deed.Plan.TheVariants as plan
use Rattle.wc_plan.specs.declared.libraries.Read.{Read}
use Rattle.wc_plan.specs.declared.reply.Reply.{Reply}
use Rattle.wc_plan.specs.declared.status.Cause.{Cause}
use Rattle.wc_plan.specs.declared.status.Cause.TheVariants as cause
use Rattle.wc_plan.specs.declared.submission.Prepared.{Prepared}
use Rattle.wc_plan.specs.declared.submission.Prepared.TheVariants as prepared
use Rattle.wc_plan.specs.Dry.{OwesDry, owed_check}
use Rattle.wc_plan.specs.Expand.{OwesExpand}
use Rattle.wc_plan.specs.Files.{ReadsFrom}
use Rattle.wc_plan.specs.Replies.{refuses}
use Rattle.wc_plan.specs.Settings.{SettingsFrom, submitted_with}
use Rattle.wc_plan.specs.Submits.{PreparesFrom, IsReady}

-- a deed on a store that is there
abbrev pub on : Work → Plan
on w = plan.On (deed.Work w)

-- a refusal, or that a process is submitted with these settings
abbrev pub plan_of_prepared : Settings → Prepared → Plan
plan_of_prepared t (prepared.Refused c) = plan.Reply (refuses c)
plan_of_prepared t (prepared.Submits i) = on (work.Event (asked.Submit (submitted_with t i)))

-- with these settings, which come before the workflow file
abbrev pub PlansSubmission : Option (List ℕ → Option (List ℕ)) → List ℕ → List ℕ → List (List ℕ × List ℕ) → Option (List ℕ) → Result Settings Cause → Plan → Type 0
PlansSubmission told file name given inputs (Err c) p = p ≡ plan.Reply (refuses c)
PlansSubmission told file name given inputs (Ok t) p = (q : Prepared) × PreparesFrom told file name given inputs q × (p ≡ plan_of_prepared t q)

-- a seed in 32 bits; words give none that is greater
abbrev pub seed_of : ℕ → ℕ
seed_of seed = min seed 4294967295

-- a refusal, or a run within the limits of these settings
abbrev pub plan_of_run : (turns seed : ℕ) → Result Settings Cause → Plan
plan_of_run turns seed (Err c) = plan.Reply (refuses c)
plan_of_run turns seed (Ok t) = on (work.Run (record { turns = turns; seed = seed_of seed; limits = t.limits }))

-- a refusal, or that the rows of a query are shown
abbrev pub plan_of_query : ℕ → Result Sought QueryError → Plan
plan_of_query limit (Err e) = plan.Reply (refuses (cause.Query e))
plan_of_query limit (Ok query) = on (work.View (shown.Query query limit))

-- how many chains a drill may run at most; words give none that are more
abbrev pub chains_of : ℕ → ℕ
chains_of count = min count 10000

-- Words that are this command, or are none, plan this, on a shelf that tells this.
abbrev pub Plans : Option (List ℕ → Option (List ℕ)) → Option Command → Plan → Type 0
Plans told None p = p ≡ plan.Reply (refuses cause.Words)
Plans told (Some (Check file)) p = (r : Read) × ReadsFrom told file r × (p ≡ plan.Reply (owed_check r))
Plans told (Some (Dry file name given inputs table fuel)) p = (r : Read) × ReadsFrom told file r × (reply : Reply)
    × OwesDry told (record { name = name; given = given; inputs = inputs; table = table; fuel = fuel }) r reply × (p ≡ plan.Reply reply)
Plans told (Some Init) p = p ≡ plan.On (deed.Begin begin.Init)
Plans told (Some (Submit file name given inputs settings)) p =
    (s : Result Settings Cause) × SettingsFrom told settings s × PlansSubmission told file name given inputs s p
Plans told (Some (Pause pid)) p = p ≡ on (work.Event (asked.Pause pid))
Plans told (Some (Play pid)) p = p ≡ on (work.Event (asked.Play pid))
Plans told (Some (Kill pid)) p = p ≡ on (work.Event (asked.Kill pid))
Plans told (Some (Run turns seed settings)) p = (s : Result Settings Cause) × SettingsFrom told settings s × (p ≡ plan_of_run turns seed s)
Plans told (Some (View v)) p = p ≡ on (work.View (shown.View v))
Plans told (Some Pack) p = p ≡ on work.Pack
Plans told (Some (Drill seed count)) p = p ≡ plan.On (deed.Begin (begin.Drill seed (chains_of count)))
Plans told (Some (Query words limit)) p = p ≡ plan_of_query limit (query_of words)
Plans told (Some (Expand file spec)) p = (r : Read) × ReadsFrom told file r × (reply : Reply) × OwesExpand told spec r reply × (p ≡ plan.Reply reply)

-- the command names no file
abbrev pub NamesNoFile : Option Command → Type 0
NamesNoFile None = Unit {0}
NamesNoFile (Some (Check file)) = ⊥
NamesNoFile (Some (Dry file name given inputs table fuel)) = ⊥
NamesNoFile (Some (Submit file name given inputs settings)) = ⊥
NamesNoFile (Some (Run turns seed (Some file))) = ⊥
NamesNoFile (Some (Expand file spec)) = ⊥
NamesNoFile (Some _) = Unit {0}

-- what is to be submitted is ready
abbrev pub IsReadyAsked : Asked → Type 0
IsReadyAsked (asked.Submit s) = IsReady s
IsReadyAsked _ = Unit {0}

-- work is ready: what is to be submitted is (`IsReady`), and the limits of a run are within their ranges
abbrev pub IsReadyWork : Work → Type 0
IsReadyWork (work.View v) = Unit {0}
IsReadyWork (work.Event a) = IsReadyAsked a
IsReadyWork (work.Run o) = AreLimits o.limits
IsReadyWork work.Pack = Unit {0}

-- a drill has no more chains than it may have
abbrev pub IsReadyBegin : Begin → Type 0
IsReadyBegin begin.Init = Unit {0}
IsReadyBegin (begin.Drill seed count) = count ≤ 10000

-- a deed is ready: its work is, and a drill has at most 10,000 chains
abbrev pub IsReadyDeed : Deed → Type 0
IsReadyDeed (deed.Begin b) = IsReadyBegin b
IsReadyDeed (deed.Work w) = IsReadyWork w

-- a plan is ready: it is a reply, or its deed is ready
abbrev pub IsReadyPlan : Plan → Type 0
IsReadyPlan (plan.Reply r) = Unit {0}
IsReadyPlan (plan.On d) = IsReadyDeed d
