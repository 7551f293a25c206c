-- Laws of all events: of one, and of any number of them in any order.
use Rattle.std.specs.Prelude.{◌≢◌, ℕ, List, [], ◌∷◌, length}
use Rattle.wc_world.specs.declared.change.Change.{Change}
use Rattle.wc_world.specs.World.{World, empty}
use Rattle.wc_world.specs.Accepted.{IsAccepted, IsReached}
use Rattle.wc_machine.specs.Continues.{Continues}
use Rattle.wc_machine.specs.Laws.{HasPlaces}
use Rattle.wc_machine.specs.Machine.{Event, Leads, after_changes}
use Rattle.wc_machine.specs.Sound.{IsSound}
use Rattle.wc_soundness.specs.Happening.{MayHappen}
use Rattle.wc_soundness.specs.ListLaws.{AreItsChanges}

-- Changes, if there are any, are accepted; the world after them continues the one before, and is sound.
pub record LeavesSound (w : World) (cs : List Change) : Type 0 where
  pub accepted : cs ≢ [] → IsAccepted w cs
  pub continues : Continues w (after_changes w cs)
  pub sound : IsSound (after_changes w cs)

-- where there are changes, there is room for the nodes after them, and for one batch more
abbrev pub HasRoomFor : World → List Change → Type 0
HasRoomFor w cs = cs ≢ [] → HasPlaces w (length (after_changes w cs).nodes)

-- Each of the five events, with its changes, keeps a sound world sound: a submission of any definition with caching on for any names, a turn of
-- any ready process with any answer that fits what it asks, a pause, a play, a kill.
abbrev pub EventsKeepSound : Type 0
EventsKeepSound = (poll : ℕ) (w : World) (e : Event) (cs : List Change) → IsSound w → Leads poll w e cs → HasRoomFor w cs → LeavesSound w cs

-- What may happen at a sound world has exactly one list of changes, and keeps it sound where there is room for them.
abbrev pub WhatMayHappenKeepsSound : Type 0
WhatMayHappenKeepsSound = (poll : ℕ) (w : World) (e : Event) → IsSound w → MayHappen w e
    → (cs : List Change) × AreItsChanges poll w e cs × (HasRoomFor w cs → LeavesSound w cs)

-- These events, one after another, lead from one world to another, with room for each; the interval of polls may change from one to the next.
pub data Happens : World → List Event → World → Type 0 where
  none : (w : World) → Happens w [] w
  next : (poll : ℕ) (w x : World) (e : Event) (es : List Event) (cs : List Change) → Leads poll w e cs → HasRoomFor w cs → Happens (after_changes w cs) es x
      → Happens w (e ∷ es) x

-- The later world is sound and continues the earlier one; and it is reached where that one is.
pub record GoesOnSound (v w : World) : Type 0 where
  pub reached : IsReached v → IsReached w
  pub continues : Continues v w
  pub sound : IsSound w

-- So events in any order keep it sound.
abbrev pub AllEventsKeepSound : Type 0
AllEventsKeepSound = (v w : World) (es : List Event) → IsSound v → Happens v es w → GoesOnSound v w

-- From nothing on, whatever happens, in whatever order, the world is sound.
abbrev pub WhateverHappensIsSound : Type 0
WhateverHappensIsSound = (w : World) (es : List Event) → Happens empty es w → IsReached w × IsSound w
