-- Laws of the acceptance of all events, on worlds that need not be sound.
use Rattle.std.specs.Prelude.{◌≢◌, ℕ, List, [], length, All}
use Rattle.wc_world.specs.declared.change.Change.{Change}
use Rattle.wc_world.specs.declared.change.Change.TheVariants as change
use Rattle.wc_world.specs.Accepted.{IsAccepted, IsReached}
use Rattle.wc_world.specs.World.{World, empty}
use Rattle.wc_machine.specs.Laws.{HasPlaces}
use Rattle.wc_machine.specs.Machine.{Event, Leads, after_changes}
use Rattle.wc_machine.specs.Sound.{OutputsAscend}

-- the labels of the outputs of each checkpoint ascend
abbrev pub IsOrdered : World → Type 0
IsOrdered w = All (λ r. OutputsAscend r.part) w.records

-- A world that accepted changes make, with outputs in order, accepts the changes of each event that may happen at it, where there is room for
-- the nodes after them and for one batch more.
abbrev pub EventsAreAccepted : Type 0
EventsAreAccepted = (poll : ℕ) (w : World) (e : Event) (cs : List Change) → IsReached w → IsOrdered w → Leads poll w e cs
    → (cs ≢ [] → HasPlaces w (length (after_changes w cs).nodes)) → cs ≢ [] → IsAccepted w cs

-- The empty world has outputs in order, and so has the world after each event where the one before has.
abbrev pub EventsKeepOrder : Type 0
EventsKeepOrder = IsOrdered empty × ((poll : ℕ) (w : World) (e : Event) (cs : List Change) → IsOrdered w → Leads poll w e cs → IsOrdered (after_changes w cs))

-- a change that is neither a Count nor a Kept
abbrev pub IsPlain : Change → Type 0
IsPlain (change.Library l names) = Unit {0}
IsPlain (change.Data v) = Unit {0}
IsPlain (change.Process n) = Unit {0}
IsPlain (change.Link l) = Unit {0}
IsPlain (change.Set s) = Unit {0}
IsPlain (change.Count n) = ⊥
IsPlain (change.Kept k) = ⊥

-- Each change of an event is one.
abbrev pub EventsArePlain : Type 0
EventsArePlain = (poll : ℕ) (w : World) (e : Event) (cs : List Change) → Leads poll w e cs → All IsPlain cs
