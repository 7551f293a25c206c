-- The world after a live chain is set to run at a checkpoint.
use Rattle.std.proofs.Common.{inl, inr, ◌≡◌, ℕ, ◌+◌, Bool, true, false, [], ◌∷◌, Option, Some, None, refl, sym, ap, subst, ◌∙◌, arith}
use Rattle.std.specs.Prelude.{◌≢◌, ◌==◌, if◌then◌else◌, ◌&&◌, not, option_map, option_and_then}
use Rattle.std.proofs.lemmas.Bool.{cases_eq, eq-eqb, ne_eqb}
use Rattle.std.proofs.lemmas.List.{append-nil}
use Rattle.std.proofs.lemmas.List.Elements.{All-nil}
use Rattle.wc_value.specs.declared.process.ProcessState.{ProcessState}
use Rattle.wc_value.specs.declared.process.ProcessState.TheVariants as state
use Rattle.wc_state.specs.declared.record.Checkpoint.{Checkpoint}
use Rattle.wc_state.specs.declared.record.Part.TheVariants as part
use Rattle.wc_state.specs.declared.record.ProcessRecord.{ProcessRecord}
use Rattle.wc_semantics.specs.Meaning.{is_killed as is_cut}
use Rattle.wc_semantics.specs.Tables.{Path}
use Rattle.wc_world.specs.Fits.{calls_from}
use Rattle.wc_records.specs.declared.change.SetProcess.{SetProcess}
use Rattle.wc_world.specs.declared.change.Change.TheVariants as change
use Rattle.wc_world.specs.Applied.{applied, set, is_created, is_killed, started_in}
use Rattle.wc_world.specs.Records.{find_record, has_ended}
use Rattle.wc_world.specs.World.{World}
use Rattle.wc_world.proofs.After.{find_at}
use Rattle.wc_machine.specs.Continues.{Carries}
use Rattle.wc_machine.specs.Paths.{follow, cut_after, kills}
use Rattle.wc_machine.specs.Sound.{IsFitting}
use Rattle.wc_soundness.specs.Touches.{Touches, AddsFor, MayBeTouched}

-- the chain runs at this checkpoint, with this amount of fuel
abbrev pub at_checkpoint : ProcessRecord → ℕ → Checkpoint → SetProcess
at_checkpoint r fuel d = record { pid = r.node; state = state.Running; paused = false; cached_from = 0; fuel = fuel; code = None; part = part.Chain d }

abbrev pub went : World → ProcessRecord → ℕ → Checkpoint → World
went w r fuel d = applied w (change.Set (at_checkpoint r fuel d) ∷ [])

abbrev pub now_runs : World → ProcessRecord → ℕ → Checkpoint → ProcessRecord
now_runs w r fuel d = set (w.batches + 1) (at_checkpoint r fuel d) r

started_stays : (batch : ℕ) (r : ProcessRecord) (s : ProcessState) → r.state ≡ s → has_ended s ≡ false → (r.state ≡ state.Created → r.started ≡ 0) → r.started ≢ 0
    → started_in batch r state.Running ≡ r.started
started_stays batch r state.Created is live none ne = absurd (ne (none is))
started_stays batch r state.Running is live none ne = ap (λ (x : ProcessState). if is_created x && (not (is_created state.Running) && not (is_killed state.Running)) then batch else r.started) is
started_stays batch r state.Waiting is live none ne = ap (λ (x : ProcessState). if is_created x && (not (is_created state.Running) && not (is_killed state.Running)) then batch else r.started) is
started_stays batch r (state.Finished n) is live none ne = absurd (cc)
started_stays batch r (state.Excepted q) is live none ne = absurd (cc)
started_stays batch r state.Killed is live none ne = absurd (cc)

module _ (w : World) (r : ProcessRecord) (found : find_record r.node w.records ≡ Some r) (live : has_ended r.state ≡ false) (fits : IsFitting w r) (fuel : ℕ) (d : Checkpoint) where
  abbrev v : World
  v = went w r fuel d

  found_at : (q : ℕ) → find_record q v.records ≡ (if r.node == q then option_map (set (w.batches + 1) (at_checkpoint r fuel d)) (find_record q w.records) else find_record q w.records)
  found_at q = find_at r.node q (set (w.batches + 1) (at_checkpoint r fuel d)) w.records (λ x. refl)

  pub found_now : find_record r.node v.records ≡ Some (now_runs w r fuel d)
  found_now = found_at r.node
      ∙ ap (λ (b : Bool). if b then option_map (set (w.batches + 1) (at_checkpoint r fuel d)) (find_record r.node w.records) else find_record r.node w.records) (eq-eqb r.node r.node refl)
      ∙ ap (option_map (set (w.batches + 1) (at_checkpoint r fuel d))) found

  pub found_other : (q : ℕ) → r.node ≢ q → find_record q v.records ≡ find_record q w.records
  found_other q ne = found_at q
      ∙ ap (λ (b : Bool). if b then option_map (set (w.batches + 1) (at_checkpoint r fuel d)) (find_record q w.records) else find_record q w.records) (ne_eqb r.node q ne)

  carries : Carries r (now_runs w r fuel d)
  carries = record {
    node = refl;
    kind = refl;
    definition = refl;
    library = refl;
    depth = refl;
    label = refl;
    caching = refl;
    started = λ ne. (started_stays (w.batches + 1) r r.state refl live fits.started ne, sym (fits.source live));
    ended = λ over. absurd (let e : true ≡ false = sym over ∙ live in cc);
  }

  itself : (q : ProcessRecord) → find_record r.node w.records ≡ Some q → r ≡ q
  itself q h = let e : Some r ≡ Some q = sym found ∙ h in cc

  pub goes_touch : Touches w v r.node
  goes_touch = record {
    libraries = ([], sym (append-nil w.libraries));
    nodes = ([], sym (append-nil w.nodes));
    new = [];
    links = sym (append-nil w.links);
    added = All-nil (AddsFor w.nodes r.node);
    records = λ q ne le. found_other q ne;
    carried = λ q h. (now_runs w r fuel d, found_now, subst (λ (x : ProcessRecord). Carries x (now_runs w r fuel d)) (itself q h) carries);
    batches = omega arith;
  }

  pub may_go : MayBeTouched w r.node
  may_go q h = subst (λ (x : ProcessRecord). has_ended x.state ≡ false) (itself q h) live

  -- ---- kills stay

  uncut : (u : World) (x : ProcessRecord) → is_cut x.state ≡ false → cut_after u x ≡ None
  uncut u x h = ap (λ (b : Bool). if b then Some (calls_from x.node u.links) else None) h

  live_uncut : (s : ProcessState) → has_ended s ≡ false → is_cut s ≡ false
  live_uncut state.Created h = refl
  live_uncut state.Running h = refl
  live_uncut state.Waiting h = refl
  live_uncut (state.Finished n) h = absurd (cc)
  live_uncut (state.Excepted q) h = absurd (cc)
  live_uncut state.Killed h = absurd (cc)

  cut_same : (q : ℕ) → option_and_then (cut_after v) (find_record q v.records) ≡ option_and_then (cut_after w) (find_record q w.records)
  cut_same q = elim (cases_eq r.node q) [
    | inl e ↦
        ap (λ (n : ℕ). option_and_then (cut_after v) (find_record n v.records)) (sym e) ∙ ap (option_and_then (cut_after v)) found_now
        ∙ sym (ap (λ (n : ℕ). option_and_then (cut_after w) (find_record n w.records)) (sym e) ∙ ap (option_and_then (cut_after w)) found ∙ uncut w r (live_uncut r.state live))
    | inr ne ↦ ap (option_and_then (cut_after v)) (found_other q ne)
  ]

  pub kills_same : (pid : ℕ) (path : Path) → kills v pid path ≡ kills w pid path
  kills_same pid path = at (follow w.links pid path)
    where
      at : (o : Option ℕ) → option_and_then (λ q. option_and_then (cut_after v) (find_record q v.records)) o
          ≡ option_and_then (λ q. option_and_then (cut_after w) (find_record q w.records)) o
      at None = refl
      at (Some q) = cut_same q
