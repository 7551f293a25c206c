-- A Set with which a process goes on: the world accepts it, and it touches the process alone.
use Rattle.std.proofs.Common.{◌≡◌, ◌≢◌, ℕ, ◌+◌, Bool, true, false, Option, Some, None, [], refl, sym, ap, subst, ◌∙◌, arith}
use Rattle.std.specs.Prelude.{◌==◌, ◌&&◌, ◌||◌, not, if◌then◌else◌, option_map}
use Rattle.std.proofs.lemmas.Bool.{cond-false, cond-true, eq-eqb, ne_eqb}
use Rattle.std.proofs.lemmas.List.{append-nil}
use Rattle.std.proofs.lemmas.List.Elements.{All-nil}
use Rattle.wc_value.specs.declared.process.ProcessState.{ProcessState}
use Rattle.wc_value.specs.declared.process.ProcessState.TheVariants as state
use Rattle.wc_state.specs.declared.record.Part.{Part}
use Rattle.wc_state.specs.declared.record.ProcessRecord.{ProcessRecord}
use Rattle.wc_records.specs.declared.change.SetProcess.{SetProcess}
use Rattle.wc_world.specs.World.{World}
use Rattle.wc_world.specs.Applied.{is_created, is_killed, set}
use Rattle.wc_world.specs.Consistent.{Stands}
use Rattle.wc_world.specs.Fits.{calls_from, counted_calls, has_output, is_settled}
use Rattle.wc_world.specs.Records.{at_process, find_record, has_ended}
use Rattle.wc_world.proofs.FoundRecords.{found_holds}
use Rattle.wc_world.proofs.ReachedLists.{all_at_apart, all_found, at_one, at_one_keeps, find_mapped, found_node, unique}
use Rattle.wc_machine.specs.Continues.{Carries}
use Rattle.wc_machine.specs.Sound.{IsFitting}
use Rattle.wc_machine.proofs.AcceptedEnds.{live_without_output, settled_all}
use Rattle.wc_soundness.specs.Touches.{AddsFor, Touches}
use Rattle.wc_soundness.specs.JobLaws.{MovesAreAccepted, MovesTouch}
use Rattle.wc_soundness.specs.Sets.{moved, moved_world}

first_true : (a b : Bool) → a && b ≡ true → a ≡ true
first_true true b h = refl
first_true false b h = absurd (cc)

-- a process that fits a Set hasn't ended
pub set_is_live : (b c : Bool) → not b && c ≡ true → b ≡ false
set_is_live true c h = absurd (cc)
set_is_live false c h = refl

pub live_count : (over : Bool) (n m : ℕ) (out : Bool) → (over || (not out && (n == m))) ≡ true → over ≡ false → (n == m) ≡ true
live_count true n m out h e = absurd (cc)
live_count false n m true h e = absurd (cc)
live_count false n m false h e = h

module _ (w : World) (r : ProcessRecord) (c : SetProcess) (found : find_record r.node w.records ≡ Some r) (its : c.pid ≡ r.node) where
  abbrev pub after : World
  after = moved_world w c

  abbrev pub made : ProcessRecord
  made = set (w.batches + 1) c r

  abbrev changes : ProcessRecord → ProcessRecord
  changes = at_one c.pid (set (w.batches + 1) c)

  found_mapped : (q : ℕ) → find_record q after.records ≡ option_map changes (find_record q w.records)
  found_mapped q = find_mapped changes (at_one_keeps (λ (x : ProcessRecord). x.node) (set (w.batches + 1) c) (λ x. refl) c.pid) q w.records

  pub found_made : find_record r.node after.records ≡ Some made
  found_made =
      found_mapped r.node ∙ ap (option_map changes) found
      ∙ ap (λ (x : ProcessRecord). Some x) (cond-true (r.node == c.pid) made r (eq-eqb r.node c.pid (sym its)))

  pub found_other : (q : ℕ) → r.node ≢ q → find_record q after.records ≡ find_record q w.records
  found_other q ne = at (find_record q w.records) refl
    where
      at : (o : Option ProcessRecord) → find_record q w.records ≡ o → find_record q after.records ≡ find_record q w.records
      at None is = found_mapped q ∙ ap (option_map changes) is ∙ sym is
      at (Some x) is =
          let apart : x.node ≢ c.pid = λ e. ne (sym its ∙ sym e ∙ found_node q w.records x is) in
          found_mapped q ∙ ap (option_map changes) is
          ∙ ap (λ (y : ProcessRecord). Some y) (cond-false (x.node == c.pid) (set (w.batches + 1) c x) x (ne_eqb x.node c.pid apart)) ∙ sym is

-- ---- accepted

pub moves_accepted : MovesAreAccepted
moves_accepted w r s paused fuel p consistent found h room =
    let c : SetProcess = moved r s paused fuel p in
    let live : has_ended r.state ≡ false = set_is_live (has_ended r.state) _ h.fits in
    let stands : Stands w r = found_holds (Stands w) r.node w.records r consistent.records found in
    let u = unique 1 w.nodes w.records consistent.numbered in
    let bare : has_output r.node w.links ≡ false = live_without_output w r stands live in
    let counted : (calls_from r.node w.links == counted_calls r.part) ≡ true
    = live_count (has_ended r.state) (calls_from r.node w.links) (counted_calls r.part) (has_output r.node w.links) stands.settled live in
    let settles : is_settled w.links (set (w.batches + 1) c r) ≡ true
    = λ i. h.goes_on i || (not (bare i) && ((λ j. calls_from r.node w.links == h.counted j) ∙ counted) i) in
    record {
      batch = room;
      each = ((r, found, h.fits, refl), tt);
      settled =
          settled_all w.links (at_process r.node (set (w.batches + 1) c) w.records)
          (all_at_apart (λ x. is_settled w.links x ≡ true) r.node (set (w.batches + 1) c) w.records (λ i d lt ne. (consistent.records i d lt).settled)
          (all_found (λ x. is_settled w.links (set (w.batches + 1) c x) ≡ true) r.node w.records r u found settles));
    }

-- ---- it touches one process

pub not_created : (s : ProcessState) → (s ≡ state.Created → ⊥) → is_created s ≡ false
not_created state.Created h = absurd (h refl)
not_created state.Running h = refl
not_created state.Waiting h = refl
not_created (state.Finished n) h = refl
not_created (state.Excepted reason) h = refl
not_created state.Killed h = refl

pub same_record : (w : World) (r q : ProcessRecord) → find_record r.node w.records ≡ Some r → find_record r.node w.records ≡ Some q → r ≡ q
same_record w r q found h = let e : Some r ≡ Some q = sym found ∙ h in cc

module _ (w : World) (r : ProcessRecord) (s : ProcessState) (paused : Bool) (fuel : ℕ) (p : Part) where
  carries : IsFitting w r → has_ended r.state ≡ false → Carries r (set (w.batches + 1) (moved r s paused fuel p) r)
  carries fits live = record {
    node = refl;
    kind = refl;
    definition = refl;
    library = refl;
    depth = refl;
    label = refl;
    caching = refl;
    started = λ ne.
        let old : is_created r.state ≡ false = not_created r.state (λ e. ne (fits.started e)) in (
          ap (λ (b : Bool). if b && (not (is_created s) && not (is_killed s)) then w.batches + 1 else r.started) old,
          sym (fits.source live),
        );
    ended = λ over. absurd (cc (over, live));
  }

  pub moved_touches : IsFitting w r → find_record r.node w.records ≡ Some r → has_ended r.state ≡ false → Touches w (moved_world w (moved r s paused fuel p)) r.node
  moved_touches fits found live = record {
    libraries = ([], sym (append-nil w.libraries));
    nodes = ([], sym (append-nil w.nodes));
    new = [];
    links = sym (append-nil w.links);
    added = All-nil (AddsFor w.nodes r.node);
    records = λ q ne le. found_other w r (moved r s paused fuel p) found refl q ne;
    carried = λ q h.
        let same : r ≡ q = same_record w r q found h in (
          set (w.batches + 1) (moved r s paused fuel p) r,
          found_made w r (moved r s paused fuel p) found refl,
          subst (λ (x : ProcessRecord). Carries x (set (w.batches + 1) (moved r s paused fuel p) r)) same (carries fits live),
        );
    batches = omega arith;
  }

  pub no_new_links : (fits : IsFitting w r) (found : find_record r.node w.records ≡ Some r) (live : has_ended r.state ≡ false) → (moved_touches fits found live).new ≡ []
  unfolding moved_touches
  no_new_links fits found live = refl

pub moves_touch : MovesTouch
moves_touch w r s paused fuel p sound found live =
    moved_touches w r s paused fuel p (found_holds (IsFitting w) r.node w.records r sound.records found) found live
