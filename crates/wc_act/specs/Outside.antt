-- What a run has to do with the transport and the clock.
use Rattle.std.specs.Prelude.{◌≡◌, ℕ, List, Option, Some, None, Ok, Err}
use Rattle.wc_journal.specs.declared.journal.Journal.{Journal}
use Rattle.wc_state.specs.declared.record.What.{What}
use Rattle.wc_transport.specs.declared.transport.Transport as transport
use Rattle.wc_world.specs.World.{World}
use Rattle.wc_machine.specs.Sound.{IsSound}
use Rattle.wc_store.specs.Held.{a_world}
use Rattle.wc_drill.specs.Runner.declared.error.RunError.TheVariants.{Full}
use Rattle.wc_drill.specs.Runner.declared.runs.RunEnd.{RunEnd}
use Rattle.wc_drill.specs.Runner.Asked.{AreOfProcesses, IsAskedFor}
use Rattle.wc_drill.specs.Runner.Codes.{AreBrought}
use Rattle.wc_drill.specs.Runner.Marks.{AreNoWorse}
use Rattle.wc_drill.specs.Runner.Refusals.{RefusesStep}
use Rattle.wc_drill.specs.Runner.Runs.{EndsAs, TakesAll, TakesFewer, TakesUpTo}
use Rattle.wc_cli.specs.declared.command.Command.{Command}
use Rattle.wc_cli.specs.declared.command.Command.TheVariants.{Run}
use Rattle.wc_cli.specs.Words.{command_of}
use Rattle.wc_plan.specs.declared.deed.Deed.{Deed}
use Rattle.wc_plan.specs.declared.deed.Deed.TheVariants as deed
use Rattle.wc_plan.specs.declared.deed.Plan.TheVariants as plan
use Rattle.wc_plan.specs.declared.deed.RunOptions.{RunOptions}
use Rattle.wc_plan.specs.declared.deed.Work.{Work}
use Rattle.wc_plan.specs.declared.deed.Work.TheVariants as work
use Rattle.wc_plan.specs.declared.status.Status.{Status}
use Rattle.wc_plan.specs.declared.status.Status.TheVariants as status
use Rattle.wc_act.specs.Exchanges.{Exchange}
use Rattle.wc_act.specs.Owed.{Visit}
use Rattle.wc_act.specs.Runs.{status_of}
use Rattle.wc_plan.specs.Plans.{Plans}
use Rattle.wc_act.specs.StoreDeeds.{Images, Hold, HasJournal}

-- ---- how often the transport is asked

-- how many turns and rests the words of a run give, and none of any other command
abbrev pub turns_of : Option Command → ℕ
turns_of None = 0
turns_of (Some (Run turns seed settings)) = turns
turns_of (Some _) = 0

-- a run asks the transport at most once for each turn that it may take
abbrev pub AsksByTurns : {T : Type 0} → transport.Ghosts T → Deed → (old new : T) → Type 0
AsksByTurns g (deed.Work (work.Run o)) old new = IsAskedFor g o.turns old new
AsksByTurns g _ old new = Unit {0}

-- ---- where it has nothing to do

-- the command is no run, and takes no turns with the transport and the clock that are handed in
abbrev pub TakesNoTurns : Option Command → Type 0
TakesNoTurns None = Unit {0}
TakesNoTurns (Some (Run turns seed settings)) = ⊥
TakesNoTurns (Some _) = Unit {0}

-- what is done on a store takes no turns there
abbrev pub IsNoRun : Work → Type 0
IsNoRun (work.View v) = Unit {0}
IsNoRun (work.Event a) = Unit {0}
IsNoRun (work.Run o) = ⊥
IsNoRun work.Pack = Unit {0}

-- the deed takes no turns with a transport and a clock that are handed in
abbrev pub IsIdle : Deed → Type 0
IsIdle (deed.Begin b) = Unit {0}
IsIdle (deed.Work w) = IsNoRun w

-- ---- what it gave

-- Fewer turns and rests were taken than were given, each turn by its own call of the transport. With its turn, by what the transport gave in the
-- call for it, a process would make the store too full, by the journal that the images hold.
pub record FillsOutside (e : Exchange) (o : RunOptions) (w v : World) (after : Images) (what : What) (count limit : ℕ) : Type 0 where
  pub fewer : TakesFewer (e.sees o.limits) o.turns w v e.rests e.rests_new
  pub journal : Journal
  pub kept : HasJournal after journal
  pub broken : e.went o.limits o.seed o.turns w (Err (Full what count limit)) journal v
  pub pid : ℕ
  pub refused : RefusesStep (e.sees o.limits) journal v pid (Full what count limit)

-- What a run that ended with this status made of a world, which the images hold then by this journal, by what it had of the transport and the clock: each
-- turn is one with an answer that the transport gave, at a moment that the clock said, and each rest was counted, where no process was ready.
-- Where the run came to an end, each turn has its own call of the transport, and each turn and each rest a moment that the clock was asked for
-- once, one after another, and the turns are in the order of the seed.
-- All were taken where it is spent, and fewer where the store is full. Exit codes come from results that were given; where no call
-- failed, no process got the pause mark or failed more often; and directories that are placed belong to processes.
pub record RunsOutside (e : Exchange) (o : RunOptions) (w : World) (after : Images) (s : Status) : Type 0 where
  pub later : World
  pub held : Hold after (a_world later)
  pub journal : Journal
  pub kept : HasJournal after journal
  pub takes : TakesUpTo (e.sees o.limits) o.turns w later e.rests e.rests_new
  pub trail : (end : RunEnd) → s ≡ status_of end → e.went o.limits o.seed o.turns w (Ok end) journal later
  pub ends : (end : RunEnd) → s ≡ status_of end → EndsAs (e.sees o.limits) o.turns w later e.rests e.rests_new end
  pub spent : s ≡ status.Spent → TakesAll (e.sees o.limits) o.turns w later e.rests e.rests_new
  pub full : (what : What) (count limit : ℕ) → s ≡ status.Full what count limit → FillsOutside e o w later after what count limit
  pub codes : IsSound w → AreBrought (e.sees o.limits) w later
  pub marks : ¬ (e.sees o.limits).failed → AreNoWorse w later
  pub directories : AreOfProcesses e.placed w → AreOfProcesses e.placed_new later

-- work that is a run made this of the world
abbrev pub WorksOutside : Exchange → Work → World → (after : Images) → Status → Type 0
WorksOutside e (work.Run o) w after s = RunsOutside e o w after s
WorksOutside e _ w after s = Unit {0}

-- a deed on a store found a world on the disks, and one that is a run made this of it
abbrev pub ActsOutside : Exchange → Deed → (before after : Images) → Status → Type 0
ActsOutside e (deed.Begin b) before after s = Unit {0}
ActsOutside e (deed.Work k) before after s = (w : World) × Hold before (a_world w) × WorksOutside e k w after s

-- so did some deed that the words plan
abbrev pub ServesOutside : Option (List ℕ → Option (List ℕ)) → List (List ℕ) → Exchange → Visit → Status → Type 0
ServesOutside told words e v s = (d : Deed) × Plans told (command_of words) (plan.On d) × ActsOutside e d v.before v.after s
