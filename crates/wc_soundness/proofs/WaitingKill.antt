-- A waiting chain is killed whose calls have ended: it binds its children, and is killed then.
use Rattle.std.proofs.Common.{◌≡◌, ℕ, ◌+◌, ◌<◌, ◌≤◌, true, false, List, [], ◌∷◌, Some, None, inl, inr, map, get_or, refl, sym, ap, subst, ◌∙◌, arith}
use Rattle.std.specs.Prelude.{All, ◌==◌}
use Rattle.std.proofs.lemmas.Bool.{cases_Bool, cond-false, cond-true, eqb-true, eq-eqb}
use Rattle.std.proofs.lemmas.List.Elements.{All-head, All-tail}
use Rattle.wc_value.specs.declared.process.ProcessState.TheVariants as state
use Rattle.wc_syntax.specs.declared.definition.Chain.{Chain}
use Rattle.wc_state.specs.declared.record.Checkpoint.{Checkpoint}
use Rattle.wc_state.specs.declared.record.Part.{Part}
use Rattle.wc_state.specs.declared.record.Part.TheVariants as part
use Rattle.wc_state.specs.declared.record.ProcessRecord.{ProcessRecord}
use Rattle.wc_world.specs.World.{World}
use Rattle.wc_world.specs.Records.{find_record, is_call_from}
use Rattle.wc_world.proofs.ReachedLists.{unique}
use Rattle.wc_machine.specs.Calls.{bound, fuel_of}
use Rattle.wc_machine.specs.Sound.{IsSound}
use Rattle.wc_soundness.specs.Replaced.{IsSet, world_to}
use Rattle.wc_soundness.proofs.KillChildren.{IsOver}
use Rattle.wc_soundness.proofs.OthersOnTrack.{over_same}
use Rattle.wc_soundness.proofs.Replaced.{after, at_it, found_now, now, one_record, setting}
use Rattle.wc_soundness.specs.Binding.{Waits}
use Rattle.wc_soundness.proofs.Binding as binding
use Rattle.wc_soundness.proofs.KilledStanding.{alive, calls_over}
use Rattle.wc_soundness.proofs.OneKill.{kill_is_set, killed_sound}

-- what is set twice is as it is set the second time
map_twice : (f g h : ProcessRecord → ProcessRecord) (rs : List ProcessRecord) → All (λ x. g (f x) ≡ h x) rs → map g (map f rs) ≡ map h rs
map_twice f g h [] all = refl
map_twice f g h (x ∷ xs) all =
    λ i. All-head (λ x. g (f x) ≡ h x) x xs all i ∷ map_twice f g h xs (All-tail (λ x. g (f x) ≡ h x) x xs all) i

module _ (w : World) (sound : IsSound w) (r : ProcessRecord) (k : Chain) (c : Checkpoint) (h : Waits w r k c) (batch : ℕ) (first : 0 < batch) (later : w.batches ≤ batch)
    (few : batch ≤ 4000000000) where
  abbrev F : ℕ
  F = r.fuel + fuel_of w.records c.awaiting

  abbrev P : Part
  P = part.Chain (bound c)

  abbrev u : World
  u = after w batch r state.Running F P

  abbrev mid : ProcessRecord
  mid = now w batch r state.Running F P

  binds : IsSet w batch r state.Running
  binds = binding.is_set w sound r k c h batch first later few

  sound_between : IsSound u
  sound_between = binding.binding_sound w sound r k c h batch first later few

  over_between : All (λ l. is_call_from r.node l ≡ true → IsOver u l.target) w.links
  over_between = λ i d lt called.
      let o : IsOver w (get_or w.links i d).target = calls_over w sound r k c h i d lt called in
      (o.0, (over_same w batch r state.Running F P binds sound (get_or w.links i d).target o).found ∙ o.1, o.2)

  sound_then : IsSound (after u batch mid state.Killed F part.Over)
  sound_then =
      killed_sound u sound_between mid (found_now w batch r state.Running F P h.found) refl over_between (λ pid. refl) batch first (omega arith) few

  kills : IsSet w batch r state.Killed
  kills = kill_is_set w batch r h.found (alive w sound r k c h) first later few

  abbrev one : ProcessRecord → ProcessRecord
  one = setting w batch r state.Running F P

  abbrev two : ProcessRecord → ProcessRecord
  two = setting w batch r state.Killed F part.Over

  twice : two (one r) ≡ two r
  twice =
      let start : (one r).started ≡ (two r).started = binds.start ∙ sym kills.start in
      λ i. record {
        node = r.node;
        kind = r.kind;
        definition = r.definition;
        library = r.library;
        depth = r.depth;
        label = r.label;
        caching = r.caching;
        state = state.Killed;
        paused = false;
        cached_from = None;
        fuel = F;
        code = None;
        started = start i;
        ended = batch;
        part = part.Over;
      }

  each : All (λ x. at_it u batch mid state.Killed F part.Over (at_it w batch r state.Running F P x) ≡ at_it w batch r state.Killed F part.Over x) w.records
  each = λ j d lt.
      let x : ProcessRecord = get_or w.records j d in
      let there : find_record x.node w.records ≡ Some x = unique 1 w.nodes w.records sound.consistent.numbered j d lt in
      elim (cases_Bool (x.node == r.node)) [
        | inl is ↦
            let e : x.node ≡ r.node = eqb-true x.node r.node is in
            let same : r ≡ x = one_record (find_record r.node w.records) r x h.found (ap (λ (n : ℕ). find_record n w.records) (sym e) ∙ there) in
            subst (λ (y : ProcessRecord). at_it u batch mid state.Killed F part.Over (at_it w batch r state.Running F P y) ≡ at_it w batch r state.Killed F part.Over y) same itself
        | inr free ↦
            ap (at_it u batch mid state.Killed F part.Over) (cond-false (x.node == r.node) (one x) x free)
            ∙ cond-false (x.node == r.node) (two x) x free ∙ sym (cond-false (x.node == r.node) (two x) x free)
      ]
    where
      itself : at_it u batch mid state.Killed F part.Over (at_it w batch r state.Running F P r) ≡ at_it w batch r state.Killed F part.Over r
      itself =
          let is : (r.node == r.node) ≡ true = eq-eqb r.node r.node refl in
          ap (at_it u batch mid state.Killed F part.Over) (cond-true (r.node == r.node) (one r) r is)
          ∙ cond-true (r.node == r.node) (two (one r)) (one r) is ∙ twice ∙ sym (cond-true (r.node == r.node) (two r) r is)

  pub waiting_killed : IsSound (world_to w batch r state.Killed F part.Over)
  waiting_killed =
      subst (λ (rs : List ProcessRecord). IsSound (record { nodes = w.nodes; links = w.links; records = rs; libraries = w.libraries; batches = batch }))
      (map_twice (at_it w batch r state.Running F P) (at_it u batch mid state.Killed F part.Over) (at_it w batch r state.Killed F part.Over) w.records each) sound_then
