-- What is known of the changes of a pause, a play and a kill.
use Rattle.std.proofs.Common.{◌≡◌, ◌+◌, ◌≤◌, ℕ, Bool, true, false, List, [], ◌∷◌, length, map, Result, Ok, Err, IfOk, refl, sym, ap, subst, ◌∙◌, arith}
use Rattle.std.specs.Prelude.{◌≢◌, if◌then◌else◌}
use Rattle.wc_state.specs.declared.record.ProcessRecord.{ProcessRecord}
use Rattle.wc_world.specs.declared.change.Change.{Change}
use Rattle.wc_world.specs.World.{World}
use Rattle.wc_world.specs.Accepted.{IsAccepted, IsReached, then_changes}
use Rattle.wc_world.specs.Applied.{applied}
use Rattle.wc_world.proofs.ReachedWorlds.{reached_is_consistent}
use Rattle.wc_machine.specs.Continues.{Continues}
use Rattle.wc_machine.specs.Machine.{after_changes, marked, renewed}
use Rattle.wc_machine.specs.Sound.{IsSound}
use Rattle.wc_drill.proofs.Soundness.KillOrder.{all_below, change_of, changes_are}
use Rattle.wc_drill.specs.Runner.CoreRefusals.{AreChangesOf}
use Rattle.wc_drill.proofs.Runner.Happening.{after_some}
use Rattle.wc_store.specs.Held.{is_plain}
use Rattle.wc_plan.specs.declared.deed.Asked.{Asked}
use Rattle.wc_plan.specs.declared.deed.Asked.TheVariants as asked
use Rattle.wc_act.specs.Entries.{IsStorable}
use Rattle.wc_act.specs.Events.{Changes, event_of, limits_of}
use Rattle.wc_act.proofs.Asking.{one_batch, pauses_of, plays_of, kills_of}

-- ---- they are no snapshot

plain_pause : (r : ProcessRecord) (b : Bool) → is_plain (if b then [] else marked r true r.part ∷ []) ≡ true
plain_pause r true = refl
plain_pause r false = refl

plain_play : (r : ProcessRecord) (b : Bool) → is_plain (if b then marked r false (renewed r.part) ∷ [] else []) ≡ true
plain_play r true = refl
plain_play r false = refl

plain_kills : (w : World) (xs : List ProcessRecord) → is_plain (map (change_of w) xs) ≡ true
plain_kills w [] = refl
plain_kills w (x ∷ xs) = plain_kills w xs

pub plain_paused : (w : World) (pid : ℕ) (cs : List Change) → Changes w (asked.Pause pid) cs → is_plain cs ≡ true
plain_paused w pid cs leads = let p = pauses_of w pid cs leads in ap is_plain p.is ∙ plain_pause p.process p.process.paused

pub plain_played : (w : World) (pid : ℕ) (cs : List Change) → Changes w (asked.Play pid) cs → is_plain cs ≡ true
plain_played w pid cs leads = let p = plays_of w pid cs leads in ap is_plain p.is ∙ plain_play p.process p.process.paused

pub plain_killed : (w : World) (pid : ℕ) (cs : List Change) → Changes w (asked.Kill pid) cs → is_plain cs ≡ true
plain_killed w pid cs leads =
    let p = kills_of w pid cs leads in ap is_plain (p.is ∙ changes_are w 16 p.process) ∙ plain_kills w (all_below w 16 p.process)

-- ---- they may be stored

pub result_changes : {E : Type 0} (w : World) (a : Asked) (result : Result (List Change) E) → IfOk result (AreChangesOf w (event_of a)) → IfOk result (Changes w a)
result_changes w a (Ok cs) h = (h (limits_of a).poll_ms).leads
result_changes w a (Err e) h = h

mark_storable : (w : World) (a : Asked) (cs : List Change) → (limits_of a).max_nodes ≡ 8000000 → IsReached w → Changes w a cs → is_plain cs ≡ true → IsAccepted w cs
    → (IsSound w → Continues w (after_changes w cs)) → (IsSound w → IsSound (after_changes w cs)) → w.batches + 1 ≤ 4000000000 → cs ≢ [] → IsStorable a w cs
mark_storable w a cs most reached leads plain accepted continues sound batch some =
    let later : IsReached (applied w cs) = then_changes w cs reached accepted in
    let few : length (applied w cs).nodes ≤ 8000000 = (reached_is_consistent (applied w cs) later).few in
    let more : (applied w cs).batches ≡ w.batches + 1 = one_batch w a cs leads in
    let same : after_changes w cs ≡ applied w cs = after_some w cs some in
    record {
      leads = leads;
      some = some;
      room = (subst (λ (n : ℕ). length (applied w cs).nodes ≤ n) (sym most) few, omega (arith, more, batch));
      accepted = accepted;
      plain = plain;
      keeps = λ is_sound. record {
        sound = subst IsSound same (sound is_sound);
        continues = subst (Continues w) same (continues is_sound);
        reached = later;
      };
    }

pub result_storable : {E : Type 0} (w : World) (a : Asked) (result : Result (List Change) E) → (limits_of a).max_nodes ≡ 8000000 → IsReached w
    → ((cs : List Change) → Changes w a cs → is_plain cs ≡ true)
    → IfOk result (AreChangesOf w (event_of a)) → IfOk result (λ cs. cs ≢ [] → IsAccepted w cs)
    → IfOk result (λ cs. IsSound w → Continues w (after_changes w cs)) → IfOk result (λ cs. IsSound w → IsSound (after_changes w cs))
    → IfOk result (λ cs. cs ≢ [] → w.batches + 1 ≤ 4000000000) → IfOk result (λ cs. cs ≢ [] → IsStorable a w cs)
result_storable w a (Ok cs) most reached plain changes accepted continues sound room =
    λ some.
    let leads : Changes w a cs = (changes (limits_of a).poll_ms).leads in
    mark_storable w a cs most reached leads (plain cs leads) (accepted some) continues sound (room some) some
result_storable w a (Err e) most reached plain changes accepted continues sound room = changes
