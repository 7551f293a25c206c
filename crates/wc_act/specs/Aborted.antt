-- What is left where memory ran out, or a disk failed.
use Rattle.std.specs.Prelude.{◌≡◌, ◌⊎◌, ◌↔◌, List, ℕ, Option, Result, Err}
use Rattle.wc_disk.specs.declared.disk.Disk as disk
use Rattle.wc_journal.specs.declared.journal.Journal.{Journal}
use Rattle.wc_world.specs.World.{World}
use Rattle.wc_machine.specs.Sound.{IsSound}
use Rattle.wc_store.specs.Held.{IsHeld, a_world}
use Rattle.wc_drill.specs.Runner.declared.error.RunError.{RunError}
use Rattle.wc_drill.specs.Runner.declared.error.RunError.TheVariants.{DiskFault}
use Rattle.wc_drill.specs.Runner.declared.runs.RunEnd.{RunEnd}
use Rattle.wc_drill.specs.Runner.Asked.{AreOfProcesses}
use Rattle.wc_drill.specs.Runner.Codes.{AreBrought}
use Rattle.wc_drill.specs.Runner.Marks.{AreNoWorse}
use Rattle.wc_drill.specs.Runner.Runs.{TakesUpTo}
use Rattle.wc_cli.specs.Words.{command_of}
use Rattle.wc_plan.specs.declared.deed.Deed.{Deed}
use Rattle.wc_plan.specs.declared.deed.Deed.TheVariants as deed
use Rattle.wc_plan.specs.declared.deed.Plan.TheVariants as plan
use Rattle.wc_plan.specs.declared.deed.RunOptions.{RunOptions}
use Rattle.wc_plan.specs.declared.deed.Work.{Work}
use Rattle.wc_plan.specs.declared.deed.Work.TheVariants as work
use Rattle.wc_plan.specs.declared.status.Status.{Status}
use Rattle.wc_plan.specs.declared.status.Status.TheVariants as status
use Rattle.wc_plan.specs.Plans.{Plans}
use Rattle.wc_act.specs.Crashes.{AreDurable, EachPair, HoldsBegun}
use Rattle.wc_act.specs.Exchanges.{Exchange}
use Rattle.wc_act.specs.Rows.{begin_row}
use Rattle.wc_act.specs.StoreDeeds.{HasJournal, Hold}
use Rattle.wc_act.specs.Undone.{LeavesUnwritten}

-- where memory ran out, what was committed stays: nothing is pending on either disk
abbrev pub StaysDurable : {D : Type 0} → disk.Ghosts D → (one two : D) → Status → Type 0
StaysDurable g one two s = s ≡ status.OutOfMemory → AreDurable g one two

-- where memory ran out once a store was begun, what was committed stays: nothing is pending on either disk, and they read as a world with which the deed
-- begins, by its journal
abbrev pub StaysBegun : {D : Type 0} → disk.Ghosts D → (begins : World → Journal → Type 0) → (one two : D) → Status → Type 0
StaysBegun g begins one two s = s ≡ status.OutOfMemory → AreDurable g one two × HoldsBegun begins (g.seen one) (g.seen two)

-- What a run that has no reply made of a world. It went like this, with this transport and this clock: a disk failed, or none did and memory ran out, in the
-- run or for its reply. Where memory ran out the disks read as the world that it came to, by its journal. Exit codes come from results that were given; where
-- no call failed, no process got the pause mark or failed more often; and directories that are placed belong to processes of what each pair of images holds.
pub record BreaksOutside {D : Type 0} (g : disk.Ghosts D) (e : Exchange) (o : RunOptions) (w : World) (one two : D) (s : Status) : Type 0 where
  pub result : Result RunEnd RunError
  pub fault : (s ≡ status.DiskFault) ↔ (result ≡ Err DiskFault)
  pub later : World
  pub journal : Journal
  pub went : e.went o.limits o.seed o.turns w result journal later
  pub takes : TakesUpTo (e.sees o.limits) o.turns w later e.rests e.rests_new
  pub held : s ≡ status.OutOfMemory → Hold (g.seen one, g.seen two) (a_world later) × HasJournal (g.seen one, g.seen two) journal
  pub codes : IsSound w → AreBrought (e.sees o.limits) w later
  pub marks : ¬ (e.sees o.limits).failed → AreNoWorse w later
  pub directories : AreOfProcesses e.placed w → EachPair g one two (λ a b. (v : World) × IsHeld a b (a_world v) × AreOfProcesses e.placed_new v)

-- work that is a run made this of the world
abbrev pub WorkAborts : {D : Type 0} → disk.Ghosts D → Exchange → Work → World → (one two : D) → Status → Type 0
WorkAborts g e (work.Run o) w one two s = BreaksOutside g e o w one two s
WorkAborts g e _ w one two s = Unit {0}

-- what a deed leaves that has come to the disks: where it begins a store, that stays; where it is work on a store, it found a world
abbrev pub DeedAborts : {D : Type 0} → disk.Ghosts D → Exchange → Deed → (one two one_new two_new : D) → Status → Type 0
DeedAborts g e (deed.Begin b) one two one_new two_new s = StaysBegun g (begin_row b).begins one_new two_new s
DeedAborts g e (deed.Work k) one two one_new two_new s =
    StaysDurable g one_new two_new s × ((w : World) × Hold (g.seen one, g.seen two) (a_world w) × WorkAborts g e k w one_new two_new s)

-- nothing was written, and the transport and the clock are as they were, as the last clause says; or the deed leaves this
abbrev pub Aborts : {D : Type 0} → disk.Ghosts D → Exchange → Deed → (one two one_new two_new : D) → Status → (idle : Type 0) → Type 0
Aborts g e d one two one_new two_new s idle = (LeavesUnwritten g one two one_new two_new × idle) ⊎ DeedAborts g e d one two one_new two_new s

-- so does some deed that the words plan
abbrev pub ServesAborted : {D : Type 0} → disk.Ghosts D → Option (List ℕ → Option (List ℕ)) → List (List ℕ) → Exchange
    → (one two one_new two_new : D) → Status → (idle : Type 0) → Type 0
ServesAborted g told words e one two one_new two_new s idle =
    (LeavesUnwritten g one two one_new two_new × idle) ⊎ ((d : Deed) × Plans told (command_of words) (plan.On d) × DeedAborts g e d one two one_new two_new s)
