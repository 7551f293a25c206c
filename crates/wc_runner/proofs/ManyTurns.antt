-- Turns one after another.
use Rattle.std.proofs.Common.{◌≡◌, ◌≢◌, ℕ, ◌+◌, List, [], ◌∷◌, length, refl, sym, ap, subst, ◌∙◌, arith}
use Rattle.std.specs.Prelude.{All}
use Rattle.std.proofs.lemmas.List.Elements.{All-head, All-tail}
use Rattle.wc_world.specs.declared.change.Change.{Change}
use Rattle.wc_world.specs.declared.change.Change.TheVariants as change
use Rattle.wc_world.specs.World.{World}
use Rattle.wc_world.specs.Accepted.{IsReached, then_changes}
use Rattle.wc_world.specs.Applied.{after_change, applied, begun, changed}
use Rattle.wc_world.proofs.ReachedWorlds.{reached_is_consistent}
use Rattle.wc_machine.specs.Continues.{Continues}
use Rattle.wc_machine.specs.Laws.{HasPlaces}
use Rattle.wc_machine.specs.Machine.{Event, after_changes, turn}
use Rattle.wc_machine.specs.Sound.{IsSound}
use Rattle.wc_soundness.proofs.NoChanges.{only_marks_change_nothing}
use Rattle.wc_soundness.specs.AcceptedLaws.{IsPlain}
use Rattle.wc_soundness.proofs.Parts.{events_are_plain}
use Rattle.wc_soundness.specs.EventLaws.{LeavesSound}
use Rattle.wc_soundness.proofs.SoundEvents.{events_keep_sound}
use Rattle.wc_runner.specs.Laws.{StaysSound, TurnsKeepSound, TurnsAreBatches}
use Rattle.wc_runner.specs.Outside.{Outside}
use Rattle.wc_runner.specs.Trips.{IsTurn, TurnOf, none, one_more, one_rest}
use Rattle.wc_runner.proofs.Continuing.{continues_itself, continues_on}

-- ---- batches

-- changes of which none is a Count count one batch
pub plain_batches : (b : ℕ) (w : World) (cs : List Change) → All IsPlain cs → (changed b w cs).batches ≡ w.batches
plain_batches b w [] h = refl
plain_batches b w (c ∷ cs) h = plain_batches b (after_change b w c) cs (All-tail IsPlain c cs h) ∙ kept c (All-head IsPlain c cs h)
  where
    kept : (d : Change) → IsPlain d → (after_change b w d).batches ≡ w.batches
    kept (change.Library l names) p = refl
    kept (change.Data v) p = refl
    kept (change.Process n) p = refl
    kept (change.Link l) p = refl
    kept (change.Set s) p = refl
    kept (change.Count n) p = absurd p
    kept (change.Kept k) p = refl

pub one_batch : (o : Outside) (pid : ℕ) (w : World) (cs : List Change) → IsTurn o pid w cs → (applied w cs).batches ≡ w.batches + 1
one_batch o pid w cs t = plain_batches (w.batches + 1) (begun w) cs (events_are_plain o.limits.poll_ms w (turn pid t.answer t.moment) cs t.leads)

pub turn_batch : (o : Outside) (pid : ℕ) (w v : World) → TurnOf o pid w v → v.batches ≡ w.batches + 1
turn_batch o pid w v t = ap (λ (x : World). x.batches) t.after ∙ one_batch o pid w t.changes t.turn

pub turns_counted : (o : Outside) → TurnsAreBatches o
turns_counted o n m w v (none x) = omega arith
turns_counted o n m w v (one_more k l x y z ts t) =
    let before : y.batches ≡ x.batches + k = turns_counted o k l x y ts in
    let more : z.batches ≡ y.batches + 1 = turn_batch o t.0 y z t.1 in
    omega arith
turns_counted o n m w v (one_rest k l x y ts r) = turns_counted o k l x y ts

-- ---- soundness

some_applied : (w : World) (cs : List Change) → cs ≢ [] → after_changes w cs ≡ applied w cs
some_applied w [] some = absurd (some refl)
some_applied w (c ∷ cs) some = refl

pub turn_sound : (o : Outside) (pid : ℕ) (w v : World) → IsReached w → IsSound w → TurnOf o pid w v → StaysSound w v
turn_sound o pid w v reached sound t =
    let cs : List Change = t.changes in
    let poll : ℕ = o.limits.poll_ms in
    let e : Event = turn pid t.turn.answer t.turn.moment in
    let then : IsReached (applied w cs) = then_changes w cs reached t.accepted in
    let places : HasPlaces w (length (applied w cs).nodes) = record { nodes = (reached_is_consistent (applied w cs) then).few; batches = t.accepted.batch } in
    let same : cs ≢ [] → after_changes w cs ≡ applied w cs = some_applied w cs in
    let leaves : LeavesSound w cs
    = events_keep_sound poll w e cs sound t.turn.leads (λ some. subst (λ (x : World). HasPlaces w (length x.nodes)) (sym (same some)) places) in
    let some : cs ≢ [] = (only_marks_change_nothing poll w e cs t.turn.leads).0 in
    let is : after_changes w cs ≡ v = same some ∙ sym t.after in
    record {
      sound = subst IsSound is leaves.sound;
      continues = subst (Continues w) is leaves.continues;
      reached = subst IsReached (sym t.after) then;
    }

pub turns_sound : (o : Outside) → TurnsKeepSound o
turns_sound o n m w v reached sound (none x) = record { sound = sound; continues = continues_itself x reached; reached = reached }
turns_sound o n m w v reached sound (one_more k l x y z ts t) =
    let before : StaysSound x y = turns_sound o k l x y reached sound ts in
    let last : StaysSound y z = turn_sound o t.0 y z before.reached before.sound t.1 in
    record { sound = last.sound; continues = continues_on x y z before.continues last.continues; reached = last.reached }
turns_sound o n m w v reached sound (one_rest k l x y ts r) = turns_sound o k l x y reached sound ts
