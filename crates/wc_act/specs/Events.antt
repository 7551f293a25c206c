-- What an event that is asked for does to a store.
use Rattle.std.specs.Prelude.{◌≡◌, ◌≢◌, ◌⊎◌, ◌+◌, ◌≤◌, ℕ, List, [], length, Option, Some, None}
use Rattle.wc_value.specs.declared.process.ProcessState.{ProcessState}
use Rattle.wc_journal.specs.declared.journal.Journal.{Journal}
use Rattle.wc_state.specs.declared.record.Limits.{Limits}
use Rattle.wc_state.specs.declared.record.What.{What}
use Rattle.wc_world.specs.declared.change.Change.{Change}
use Rattle.wc_world.specs.World.{World}
use Rattle.wc_world.specs.Accepted.{IsAccepted}
use Rattle.wc_world.specs.Applied.{applied}
use Rattle.wc_world.specs.Records.{find_record}
use Rattle.wc_machine.specs.Machine.{Event, Leads, submit, pause, play, kill}
use Rattle.wc_machine.specs.Submissions.{submitted_number}
use Rattle.wc_machine.specs.Refusals.{HasEndedAs, HasRoom, RefusesSubmission}
use Rattle.wc_machine.specs.declared.error.TurnError.{TurnError}
use Rattle.wc_machine.specs.declared.error.TurnError.TheVariants as turn_error
use Rattle.wc_drill.specs.Runner.CoreRefusals.{RefusesMark}
use Rattle.wc_store.specs.declared.error.StoreError.TheVariants as store_error
use Rattle.wc_store.specs.Held.{a_world}
use Rattle.wc_store.specs.Refusals.{committed_bytes, RefusesCommit}
use Rattle.wc_store.specs.Stores.{IsLonger}
use Rattle.wc_report.specs.Lines.{submitted_text, paused_text, playing_text, killed_text}
use Rattle.wc_plan.specs.declared.deed.Asked.{Asked}
use Rattle.wc_plan.specs.declared.deed.Asked.TheVariants as asked
use Rattle.wc_plan.specs.declared.reply.Reply.{Reply}
use Rattle.wc_plan.specs.declared.status.Cause.{Cause}
use Rattle.wc_plan.specs.declared.status.Cause.TheVariants as cause
use Rattle.wc_plan.specs.Replies.{prints, refuses}
use Rattle.wc_act.specs.StoreDeeds.{Images, Hold, HasJournal, GoesOn, greatest_limits, Fits, is_full}

-- the event of the machine: a process is submitted, or one that is there is paused, plays, or is killed
abbrev pub event_of : Asked → Event
event_of (asked.Submit s) = submit s.library s.caching s.name s.inputs
event_of (asked.Pause pid) = pause pid
event_of (asked.Play pid) = play pid
event_of (asked.Kill pid) = kill pid

-- the limits within which it is stored: those of a submission, and for a process that is there the greatest ones
abbrev pub limits_of : Asked → Limits
limits_of (asked.Submit s) = s.limits
limits_of (asked.Pause pid) = greatest_limits
limits_of (asked.Play pid) = greatest_limits
limits_of (asked.Kill pid) = greatest_limits

-- the number of the process that is there
abbrev pub process_of : Asked → Option ℕ
process_of (asked.Submit s) = None
process_of (asked.Pause pid) = Some pid
process_of (asked.Play pid) = Some pid
process_of (asked.Kill pid) = Some pid

-- its changes, of which there are none where a paused process is paused, and where one plays that isn't paused
abbrev pub Changes : World → Asked → List Change → Type 0
Changes w a cs = Leads (limits_of a).poll_ms w (event_of a) cs

-- ---- its line

-- the line that is written once it has happened
abbrev pub line_of : Asked → World → List ℕ
line_of (asked.Submit s) w = submitted_text (submitted_number w s.inputs)
line_of (asked.Pause pid) w = paused_text pid
line_of (asked.Play pid) w = playing_text pid
line_of (asked.Kill pid) w = killed_text pid

-- the number in it would have more than 32 bits
abbrev pub IsUnnumbered : Asked → World → Type 0
IsUnnumbered (asked.Submit s) w = 4294967296 ≤ submitted_number w s.inputs
IsUnnumbered (asked.Pause pid) w = ⊥
IsUnnumbered (asked.Play pid) w = ⊥
IsUnnumbered (asked.Kill pid) w = ⊥

-- the line, where there is one
abbrev pub IsLine : Asked → World → Option (List ℕ) → Type 0
IsLine a w (Some line) = line ≡ line_of a w
IsLine a w None = IsUnnumbered a w

-- ---- why it may not happen

-- why the changes aren't given, where what is submitted is ready
abbrev pub RefusesAsked : Asked → World → TurnError → Type 0
RefusesAsked (asked.Submit s) w e = RefusesSubmission w s.library s.caching s.name s.inputs s.limits.max_nodes e
RefusesAsked (asked.Pause pid) w e = RefusesMark w (pause pid) pid e
RefusesAsked (asked.Play pid) w e = RefusesMark w (play pid) pid e
RefusesAsked (asked.Kill pid) w e = RefusesMark w (kill pid) pid e

-- there is no process of this number, or it has ended
abbrev pub IsNotLive : World → ℕ → Cause → Type 0
IsNotLive w pid c =
    ((find_record pid w.records ≡ None) × (c ≡ cause.UnknownProcess pid))
    ⊎ ((s : ProcessState) × HasEndedAs w pid s × (c ≡ cause.Ended pid s))

-- the event is refused for this cause
abbrev pub IsRefusedFor : Asked → World → Cause → Type 0
IsRefusedFor (asked.Submit s) w c = ⊥
IsRefusedFor (asked.Pause pid) w c = IsNotLive w pid c
IsRefusedFor (asked.Play pid) w c = IsNotLive w pid c
IsRefusedFor (asked.Kill pid) w c = IsNotLive w pid c

-- The world would have too many nodes or batches after the event.
abbrev pub IsCrowded : Asked → World → What → (count limit : ℕ) → Type 0
IsCrowded a w what count limit = RefusesAsked a w (turn_error.Full what count limit)

-- The world would not have too many nodes or batches after the event, but this journal too many bytes.
pub record IsOverlong (a : Asked) (journal : Journal) (w : World) (what : What) (count limit : ℕ) : Type 0 where
  pub changes : List Change
  pub submits : Changes w a changes
  pub some : changes ≢ []
  pub room : HasRoom (limits_of a).max_nodes (applied w changes)
  pub refused : RefusesCommit journal (limits_of a) w changes (store_error.Full what count limit)

-- the store's journal would have
abbrev pub OverlongIn : Asked → Images → World → What → (count limit : ℕ) → Type 0
OverlongIn a before w what count limit = (journal : Journal) × HasJournal before journal × IsOverlong a journal w what count limit

-- this would be too full so
abbrev pub TellsFull : (What → (count limit : ℕ) → Type 0) → Reply → Type 0
TellsFull full r = (what : What) × (count : ℕ) × (limit : ℕ) × full what count limit × (r ≡ is_full what count limit)

-- ---- what it makes of a world

-- One world is what the event makes of another by one batch, by which the journal is longer, within the limits of nodes and of bytes.
pub record IsMadeBy (a : Asked) (journal : Journal) (w v : World) (next : Journal) : Type 0 where
  pub changes : List Change
  pub leads : Changes w a changes
  pub some : changes ≢ []
  pub accepted : IsAccepted w changes
  pub after : v ≡ applied w changes
  pub nodes : length v.nodes ≤ (limits_of a).max_nodes
  pub longer : IsLonger (limits_of a) journal changes next

-- The journal goes on from these images to those, which hold the same world by a journal that ends where it did, or what the event makes of it.
pub record MayHappen (a : Asked) (before : Images) (w v : World) (after : Images) : Type 0 where
  pub journal : Journal
  pub next : Journal
  pub goes : GoesOn before after journal next
  pub made : ((v ≡ w) × (next.end ≡ journal.end)) ⊎ IsMadeBy a journal w v next

-- ---- what it does to a store

-- The event has changes, which are stored as one batch within the limits; the journal goes on by just their bytes, and its line is written.
pub record IsEntered (a : Asked) (before : Images) (w : World) (after : Images) (r : Reply) : Type 0 where
  pub changes : List Change
  pub submits : Changes w a changes
  pub some : changes ≢ []
  pub held : Hold after (a_world (applied w changes))
  pub fits : Fits (limits_of a) after (applied w changes)
  pub journal : Journal
  pub next : Journal
  pub goes : GoesOn before after journal next
  pub longer : next.end + 1 ≡ committed_bytes journal changes
  pub reply : r ≡ prints (line_of a w)

-- what is told of a world of which nothing is stored: the event has no changes, and its line is written; or there is no live process of its
-- number; or the world would have too many nodes or batches
abbrev pub TellsAlone : Asked → World → Reply → Type 0
TellsAlone a w r =
    (Changes w a [] × (r ≡ prints (line_of a w)))
    ⊎ (((c : Cause) × IsRefusedFor a w c × (r ≡ refuses c))
    ⊎ TellsFull (IsCrowded a w) r)

-- Nothing is stored, for one of these reasons, or since the journal would have too many bytes.
pub record IsUnstored (a : Asked) (before : Images) (w : World) (after : Images) (r : Reply) : Type 0 where
  pub tells : TellsAlone a w r ⊎ TellsFull (OverlongIn a before w) r
  pub held : Hold after (a_world w)
  pub still : after ≡ before

-- an event that is asked for
abbrev pub Enters : Asked → Images → World → Images → Reply → Type 0
Enters a before w after r = IsEntered a before w after r ⊎ IsUnstored a before w after r
