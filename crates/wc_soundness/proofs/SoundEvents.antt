-- Events, one and many.
use Rattle.std.proofs.Common.{◌≡◌, List, [], ◌∷◌, refl}
use Rattle.wc_world.specs.declared.change.Change.{Change}
use Rattle.wc_world.specs.World.{World, empty}
use Rattle.wc_world.specs.Accepted.{IsReached, nothing, then_changes}
use Rattle.wc_machine.specs.Machine.{submits, turns, pauses, plays, kills, pause_changes, play_changes, after_changes}
use Rattle.wc_machine.specs.Kills.{kill_changes}
use Rattle.wc_soundness.specs.BindingLaws.{KeepsSound}
use Rattle.wc_soundness.specs.Sets.{AreSafe}
use Rattle.wc_soundness.proofs.Marks.{marks_safe}
use Rattle.wc_soundness.proofs.WholeKills.{continues_on, kills_keep_sound}
use Rattle.wc_machine.specs.Sound.{IsSound}
use Rattle.wc_machine.proofs.EmptyWorld.{empty_is_sound}
use Rattle.wc_soundness.proofs.Happening.{events_have_changes}
use Rattle.wc_soundness.proofs.NoChanges.{kill_some, turn_some}
use Rattle.wc_soundness.specs.EventLaws.{LeavesSound, HasRoomFor, EventsKeepSound, WhatMayHappenKeepsSound, none, next, GoesOnSound, AllEventsKeepSound, WhateverHappensIsSound}
use Rattle.wc_soundness.proofs.Room.{room_before}
use Rattle.wc_soundness.proofs.EventSubmissions.{submission_keeps}
use Rattle.wc_soundness.proofs.Themselves.{continues_itself}
use Rattle.wc_soundness.proofs.EventTurns.{Keeps, turn_keeps}

keep : (w : World) (cs : List Change) → (cs ≡ [] → ⊥) → Keeps w cs → HasRoomFor w cs → LeavesSound w cs
keep w [] some k room = absurd (some refl)
keep w (c ∷ cs) some k room =
    let x : KeepsSound w (c ∷ cs) = k (room some) in
    record { accepted = λ ne. x.accepted; continues = x.continues; sound = x.sound }

of_mark : (w : World) (cs : List Change) → IsSound w → AreSafe w cs → HasRoomFor w cs → LeavesSound w cs
of_mark w [] sound s room = record { accepted = λ ne. absurd (ne refl); continues = s.continues; sound = sound }
of_mark w (c ∷ cs) sound s room =
    let places = room (λ e. cc e) in
    record { accepted = λ ne. s.accepted ne places.batches; continues = s.continues; sound = s.sound places.batches }

pub events_keep_sound : EventsKeepSound
events_keep_sound poll w e all sound (submits library caching name inputs cs s) room =
    keep w cs (λ bare. cc (bare, s.changes)) (submission_keeps w library caching name inputs cs s sound) room
events_keep_sound poll w e all sound (turns r a now cs found ready gives) room =
    keep w cs (turn_some poll now w r a cs gives) (turn_keeps poll now w r sound found a cs ready gives) room
events_keep_sound poll w e cs sound (pauses r live) room = of_mark w (pause_changes r) sound (marks_safe w r sound live).0 room
events_keep_sound poll w e cs sound (plays r live) room = of_mark w (play_changes r) sound (marks_safe w r sound live).1 room
events_keep_sound poll w e cs sound (kills r live) room =
    keep w (kill_changes w r) (kill_some w r live.live) (λ places. kills_keep_sound w r sound live (room_before w (kill_changes w r) places)) room

pub what_may_happen_keeps_sound : WhatMayHappenKeepsSound
what_may_happen_keeps_sound poll w e sound may =
    let h = events_have_changes poll w e sound.consistent in
    let led = h.0.0 may in
    (led.0, h.1 led.0 led.1, λ room. events_keep_sound poll w e led.0 sound led.1 room)

then_reached : (w : World) (cs : List Change) → LeavesSound w cs → IsReached w → IsReached (after_changes w cs)
then_reached w [] k reached = reached
then_reached w (c ∷ cs) k reached = then_changes w (c ∷ cs) reached (k.accepted (λ e. cc e))

pub all_events_keep_sound : AllEventsKeepSound
all_events_keep_sound v last es sound (none w) = record { reached = λ reached. reached; continues = continues_itself w sound; sound = sound }
all_events_keep_sound v last es sound (next poll w x e rest cs leads room on) =
    let k : LeavesSound w cs = events_keep_sound poll w e cs sound leads room in
    let t : GoesOnSound (after_changes w cs) x = all_events_keep_sound (after_changes w cs) x rest k.sound on in
    record {
      reached = λ reached. t.reached (then_reached w cs k reached);
      continues = continues_on w (after_changes w cs) x k.continues t.continues;
      sound = t.sound;
    }

pub whatever_happens_is_sound : WhateverHappensIsSound
whatever_happens_is_sound w es h =
    let t : GoesOnSound empty w = all_events_keep_sound empty w es empty_is_sound h in
    (t.reached nothing, t.sound)
