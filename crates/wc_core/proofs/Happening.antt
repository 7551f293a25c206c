-- What follows of the changes of any event of a process.
use Rattle.std.proofs.Common.{◌≡◌, ℕ, ◌+◌, ◌≤◌, List, [], ◌∷◌, length, refl, sym, subst}
use Rattle.std.specs.Prelude.{◌≢◌, All}
use Rattle.std.proofs.lemmas.List.Elements.{All-head, All-tail}
use Rattle.wc_world.specs.declared.change.Change.{Change}
use Rattle.wc_world.specs.declared.change.Change.TheVariants as change
use Rattle.wc_world.specs.World.{World}
use Rattle.wc_world.specs.Accepted.{IsReached}
use Rattle.wc_world.specs.Applied.{applied}
use Rattle.wc_world.proofs.ReachedWorlds.{reached_is_consistent}
use Rattle.wc_machine.specs.Laws.{HasPlaces}
use Rattle.wc_machine.specs.Machine.{Event, Leads, after_changes}
use Rattle.wc_machine.specs.Sound.{IsSound}
use Rattle.wc_soundness.specs.ListLaws.{AreItsChanges}
use Rattle.wc_soundness.proofs.Happening.{events_have_changes}
use Rattle.wc_soundness.specs.EventLaws.{HasRoomFor, LeavesSound}
use Rattle.wc_soundness.proofs.SoundEvents.{events_keep_sound}
use Rattle.wc_soundness.specs.AcceptedLaws.{IsPlain}
use Rattle.wc_soundness.proofs.Parts.{events_are_plain}
use Rattle.wc_machine.specs.Refusals.{HasRoom}
use Rattle.wc_machine.proofs.Counted.{HasNoCount, one_batch}
use Rattle.wc_machine.proofs.Rooms.{has_places}

-- plain changes tell of no count
no_count : (cs : List Change) → All IsPlain cs → HasNoCount cs
no_count [] h = tt
no_count (change.Library l names ∷ cs) h = no_count cs (All-tail IsPlain (change.Library l names) cs h)
no_count (change.Data v ∷ cs) h = no_count cs (All-tail IsPlain (change.Data v) cs h)
no_count (change.Process n ∷ cs) h = no_count cs (All-tail IsPlain (change.Process n) cs h)
no_count (change.Link l ∷ cs) h = no_count cs (All-tail IsPlain (change.Link l) cs h)
no_count (change.Set s ∷ cs) h = no_count cs (All-tail IsPlain (change.Set s) cs h)
no_count (change.Count n ∷ cs) h = All-head IsPlain (change.Count n) cs h
no_count (change.Kept k ∷ cs) h = no_count cs (All-tail IsPlain (change.Kept k) cs h)

-- changes that aren't none are one batch
pub after_some : (w : World) (cs : List Change) → cs ≢ [] → after_changes w cs ≡ applied w cs
after_some w [] some = absurd (some refl)
after_some w (c ∷ cs) some = refl

module _ (poll : ℕ) (w : World) (e : Event) (cs : List Change) (leads : Leads poll w e cs) where
  pub its_changes : IsReached w → AreItsChanges poll w e cs
  its_changes reached = (events_have_changes poll w e (reached_is_consistent w reached)).1 cs leads

  pub batch_more : (applied w cs).batches ≡ w.batches + 1
  batch_more = one_batch w cs (no_count cs (events_are_plain poll w e cs leads))

  -- where there is room after them, there are places for them
  pub places_for : (most : ℕ) → most ≤ 8000000 → HasRoom most (applied w cs) → HasPlaces w (length (applied w cs).nodes)
  places_for most few room = has_places w (applied w cs) (length (applied w cs).nodes) most refl batch_more room few

  pub room_for : (cs ≢ [] → HasPlaces w (length (applied w cs).nodes)) → HasRoomFor w cs
  room_for places some = subst (λ (v : World). HasPlaces w (length v.nodes)) (sym (after_some w cs some)) (places some)

  pub leaves_sound : (cs ≢ [] → HasPlaces w (length (applied w cs).nodes)) → IsSound w → LeavesSound w cs
  leaves_sound places sound = events_keep_sound poll w e cs sound leads (room_for places)
