-- What is prepared for an event before anything is stored.
use Rattle.std.specs.Prelude.{◌≡◌, ◌≢◌, true, List, []}
use Rattle.wc_world.specs.declared.change.Change.{Change}
use Rattle.wc_world.specs.World.{World}
use Rattle.wc_world.specs.Accepted.{IsAccepted}
use Rattle.wc_world.specs.Applied.{applied}
use Rattle.wc_machine.specs.Refusals.{HasRoom}
use Rattle.wc_store.specs.Held.{is_plain}
use Rattle.wc_plan.specs.declared.deed.Asked.{Asked}
use Rattle.wc_act.specs.declared.events.Entry.{Entry}
use Rattle.wc_act.specs.declared.events.Entry.TheVariants as entry
use Rattle.wc_act.specs.Crashes.{Keeps}
use Rattle.wc_act.specs.Events.{Changes, TellsAlone, limits_of, line_of}

-- The event has these changes, which the world takes, and for which it has room. They may be committed, and keep the world.
pub record IsStorable (a : Asked) (w : World) (cs : List Change) : Type 0 where
  pub leads : Changes w a cs
  pub some : cs ≢ []
  pub room : HasRoom (limits_of a).max_nodes (applied w cs)
  pub accepted : IsAccepted w cs
  pub plain : is_plain cs ≡ true
  pub keeps : Keeps w (applied w cs)

-- what is told where nothing is stored, or what is stored and the line that is written then
abbrev pub IsEntryOf : Asked → World → Entry → Type 0
IsEntryOf a w (entry.Reply r) = TellsAlone a w r
IsEntryOf a w (entry.Commits cs line) = IsStorable a w cs × (line ≡ line_of a w)
