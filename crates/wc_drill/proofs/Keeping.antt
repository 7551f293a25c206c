-- What a drill makes is sound, and continues the empty world.
use Rattle.std.proofs.Common.{◌≡◌, ◌≢◌, ℕ, List, [], ◌∷◌, length, refl, sym, subst, ◌∙◌}
use Rattle.wc_world.specs.declared.change.Change.{Change}
use Rattle.wc_world.specs.World.{World, empty}
use Rattle.wc_world.specs.Accepted.{IsReached, nothing, then_changes}
use Rattle.wc_world.specs.Applied.{applied}
use Rattle.wc_world.proofs.ReachedWorlds.{reached_is_consistent}
use Rattle.wc_machine.specs.Continues.{Continues}
use Rattle.wc_machine.specs.Laws.{HasPlaces}
use Rattle.wc_machine.specs.Machine.{Event, after_changes}
use Rattle.wc_machine.specs.Sound.{IsSound}
use Rattle.wc_machine.proofs.EmptyWorld.{empty_is_sound}
use Rattle.wc_ends.proofs.Soundness.NoChanges.{only_marks_change_nothing}
use Rattle.wc_ends.specs.Soundness.EventLaws.{LeavesSound}
use Rattle.wc_ends.proofs.Soundness.SoundEvents.{events_keep_sound}
use Rattle.wc_ends.specs.Runner.Laws.{StaysSound}
use Rattle.wc_ends.proofs.Runner.Continuing.{continues_itself, continues_on}
use Rattle.wc_ends.proofs.Runner.ManyTurns.{turns_sound}
use Rattle.wc_drill.specs.Draws.{first_number, second_number}
use Rattle.wc_drill.specs.Drilled.{IsSubmitted, Submitted, none, one_more, outside, submits_chain, usual_limits}
use Rattle.wc_drill.specs.Sound.{DrillsAreSound}

some_applied : (w : World) (cs : List Change) → cs ≢ [] → after_changes w cs ≡ applied w cs
some_applied w [] some = absurd (some refl)
some_applied w (c ∷ cs) some = refl

pub chain_sound : (first second : ℕ) (w v : World) → IsReached w → IsSound w → IsSubmitted first second w v → StaysSound w v
chain_sound first second w v reached sound s =
    let cs : List Change = s.changes in
    let poll : ℕ = usual_limits.poll_ms in
    let e : Event = submits_chain first second in
    let then : IsReached (applied w cs) = then_changes w cs reached s.accepted in
    let places : HasPlaces w (length (applied w cs).nodes) = record { nodes = (reached_is_consistent (applied w cs) then).few; batches = s.accepted.batch } in
    let same : cs ≢ [] → after_changes w cs ≡ applied w cs = some_applied w cs in
    let leaves : LeavesSound w cs
    = events_keep_sound poll w e cs sound s.leads (λ some. subst (λ (x : World). HasPlaces w (length x.nodes)) (sym (same some)) places) in
    let some : cs ≢ [] = (only_marks_change_nothing poll w e cs s.leads).0 in
    let is : after_changes w cs ≡ v = same some ∙ sym s.after in
    record {
      sound = subst IsSound is leaves.sound;
      continues = subst (Continues w) is leaves.continues;
      reached = subst IsReached (sym s.after) then;
    }

pub chains_sound : (seed n : ℕ) (w v : World) → IsReached w → IsSound w → Submitted seed n w v → StaysSound w v
chains_sound seed n w v reached sound (none x) = record { sound = sound; continues = continues_itself x reached; reached = reached }
chains_sound seed n w v reached sound (one_more k x y z before more) =
    let b : StaysSound x y = chains_sound seed k x y reached sound before in
    let last : StaysSound y z = chain_sound (first_number k seed) (second_number k seed) y z b.reached b.sound more in
    record { sound = last.sound; continues = continues_on x y z b.continues last.continues; reached = last.reached }

pub drills_sound : DrillsAreSound
drills_sound seed count v d =
    let b : StaysSound empty d.begun = chains_sound seed d.chains empty d.begun nothing empty_is_sound d.submitted in
    let t = d.takes.0 in
    let last : StaysSound d.begun v = turns_sound outside t.count t.rests d.begun v b.reached b.sound t.turns in
    record { sound = last.sound; continues = continues_on empty d.begun v b.continues last.continues; reached = last.reached }
