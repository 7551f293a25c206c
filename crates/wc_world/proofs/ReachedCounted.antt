-- Outside snapshots each change keeps the numbers of the batches in which processes started and ended right.
use Rattle.std.proofs.Common.{◌≡◌, ℕ, ◌≤◌, Bool, true, false, cond, Option, Some, None, List, [], ◌∷◌, ◌++◌, map, refl, sym, ap, ◌∙◌, subst, arith}
use Rattle.std.specs.Prelude.{All, not, ◌==◌, ◌&&◌, nat_lt, nat_le, option_map, if◌then◌else◌}
use Rattle.std.proofs.lemmas.Bool.{and_parts, and_from, lt-ltb, le-leb, eq-eqb, eqb-true, cond_both}
use Rattle.std.proofs.lemmas.List.Elements.{All-push, All-weaker}
use Rattle.wc_state.specs.declared.record.ProcessRecord.{ProcessRecord}
use Rattle.wc_world.specs.declared.change.Change.{Change}
use Rattle.wc_world.specs.declared.change.Change.TheVariants as change
use Rattle.wc_records.specs.declared.change.SetProcess.{SetProcess}
use Rattle.wc_records.specs.declared.change.Kept.{Kept}
use Rattle.wc_world.specs.World.{World}
use Rattle.wc_world.specs.Records.{find_record, has_ended}
use Rattle.wc_world.specs.Applied.{next_number, made, set, is_created, is_killed, started_in, source_of, after_change, changed}
use Rattle.wc_world.specs.Accepted.{Setting, Fits, Apply, kept_of, kepts, kept_started, kept_ended, kept_fits, ended_fits, count_in, source_fits}
use Rattle.wc_world.specs.Consistent.{ended_stands}
use Rattle.wc_world.proofs.ReachedLists.{find_grown, found_node, found_has, find_mapped, at_one, at_one_keeps, at_one_has, all_at, all_found, unique}
use Rattle.wc_world.proofs.ReachedSound.{IsSound, set_parts, sound_after}
use Rattle.wc_world.proofs.ReachedSources.{SourceIs, KeepsSources, source_kept, source_set}

pub record NumbersFit (batch : ℕ) (r : ProcessRecord) : Type 0 where
  pub started : r.started ≤ batch
  pub ended : r.ended ≤ batch
  pub ends : ended_stands r ≡ true

abbrev pub ended : ProcessRecord → ℕ
ended r = r.ended

-- the numbers of a world in the batch of this number
pub record AreCounted (batch : ℕ) (w : World) : Type 0 where
  pub batches : w.batches ≡ batch
  pub numbers : All (NumbersFit batch) w.records
  pub sources : All (λ r. SourceIs ended w.records r.started r.cached_from) w.records

-- ---- a process that is set
alive_by : (b : Bool) (x : Bool) (n : ℕ) → not b ≡ true → cond b x (n == 0) ≡ true → n ≡ 0
alive_by true x n h e = absurd (cc)
alive_by false x n h e = eqb-true n 0 e

pub alive_number : (r : ProcessRecord) → not (has_ended r.state) ≡ true → ended_stands r ≡ true → r.ended ≡ 0
alive_number r h e = alive_by (has_ended r.state) (nat_lt 0 r.ended && nat_le r.started r.ended) r.ended h e

ends_by : (b : Bool) (batch from to : ℕ) → 1 ≤ batch → from ≤ batch → to ≡ 0
    → cond b (nat_lt 0 (cond b batch to) && nat_le from (cond b batch to)) (cond b batch to == 0) ≡ true
ends_by true batch from to pos le none = and_from (nat_lt 0 batch) (nat_le from batch) (lt-ltb 0 batch (omega arith)) (le-leb from batch le)
ends_by false batch from to pos le none = eq-eqb to 0 none

numbers_set : (batch : ℕ) (c : SetProcess) (r : ProcessRecord) → 1 ≤ batch → NumbersFit batch r → not (has_ended r.state) ≡ true → NumbersFit batch (set batch c r)
numbers_set batch c r pos h alive =
    let z : r.ended ≡ 0 = alive_number r alive h.ends in
    let le : started_in batch r c.state ≤ batch =
    cond_both (is_created r.state && (not (is_created c.state) && not (is_killed c.state))) batch r.started (λ n. n ≤ batch) (λ e. omega arith) (λ e. h.started) in
    record {
      started = le;
      ended = cond_both (has_ended c.state) batch r.ended (λ n. n ≤ batch) (λ e. omega arith) (λ e. h.ended);
      ends = ends_by (has_ended c.state) batch (started_in batch r c.state) r.ended pos le z;
    }

-- ---- sources
push_keeps : (records more : List ProcessRecord) → KeepsSources ended records (records ++ more)
push_keeps records more pid q h lt = (q, find_grown pid records more q h, refl, refl)

-- what is set hasn't ended, so that it was no source
set_keeps : (batch : ℕ) (c : SetProcess) (records : List ProcessRecord) (r : ProcessRecord) → find_record c.pid records ≡ Some r → r.ended ≡ 0
    → KeepsSources ended records (map (at_one c.pid (set batch c)) records)
set_keeps batch c records r found none pid q h lt =
    let f = set batch c in (
      at_one c.pid f q,
      find_mapped (at_one c.pid f) (at_one_keeps (λ (x : ProcessRecord). x.node) f (λ x. refl) c.pid) pid records ∙ ap (option_map (at_one c.pid f)) h,
      at_one_keeps (λ (x : ProcessRecord). x.kind) f (λ x. refl) c.pid q,
      at_one_has (λ x. x.ended ≡ q.ended) c.pid f q
          (λ e.
          let same : pid ≡ c.pid = sym (found_node pid records q h) ∙ e in
          let again : Some q ≡ Some r = sym h ∙ ap (λ (n : ℕ). find_record n records) same ∙ found in
          let is : q ≡ r = cc in
          let z : q.ended ≡ 0 = ap ended is ∙ none in
          absurd (omega arith))
          (λ ne. refl),
    )

-- outside a snapshot the source is taken by the numbers that the records have
source_counted : (s : Setting) (w : World) (c : SetProcess) (r : ProcessRecord) → s.snapshot ≡ false → source_fits s w c r ≡ true
    → SourceIs ended w.records (started_in s.batch r c.state) (source_of c.cached_from)
source_counted s w c r e h =
    subst (λ (b : Bool). SourceIs (λ q. if b then kept_ended (kept_of q.node (kepts s.all)) else q.ended) w.records
    (if b then kept_started (kept_of r.node (kepts s.all)) else started_in s.batch r c.state) (source_of c.cached_from)) e (source_set s w c r h)

-- ---- a change
kept_in_snapshot : (s : Setting) (k : Kept) (o : Option ProcessRecord) → kept_fits s k o ≡ true → s.snapshot ≡ true
kept_in_snapshot s k None h = absurd (cc)
kept_in_snapshot s k (Some r) h = (and_parts s.snapshot (nat_le k.started (count_in s.all) && (nat_le k.ended (count_in s.all) && ended_fits k r)) h).0

counted_set : (s : Setting) (w : World) (c : SetProcess) → s.snapshot ≡ false → 1 ≤ s.batch → IsSound w → AreCounted s.batch w → Fits s w (change.Set c)
    → AreCounted s.batch (after_change s.batch w (change.Set c))
counted_set s w c plain pos sound h fits =
    let r = fits.0 in
    let f = set s.batch c in
    let records = map (at_one c.pid f) w.records in
    let u = unique 1 w.nodes w.records sound.numbered in
    let alive = (set_parts w c r fits.2).lives in
    let n : NumbersFit s.batch r = found_has (NumbersFit s.batch) c.pid w.records r fits.1 h.numbers in
    let keeps : KeepsSources ended w.records records = set_keeps s.batch c w.records r fits.1 (alive_number r alive n.ends) in
    let now : SourceIs ended records (started_in s.batch r c.state) (source_of c.cached_from) =
    source_kept ended w.records records (started_in s.batch r c.state) (source_of c.cached_from) keeps (source_counted s w c r plain fits.3) in
    record {
      batches = h.batches;
      numbers = all_at (NumbersFit s.batch) (NumbersFit s.batch) c.pid f w.records (λ x p. p) h.numbers
          (all_found (λ x. NumbersFit s.batch (f x)) c.pid w.records r u fits.1 (numbers_set s.batch c r pos n alive));
      sources = all_at (λ x. SourceIs ended w.records x.started x.cached_from) (λ x. SourceIs ended records x.started x.cached_from) c.pid f w.records
          (λ x p. source_kept ended w.records records x.started x.cached_from keeps p) h.sources
          (all_found (λ x. SourceIs ended records (f x).started (f x).cached_from) c.pid w.records r u fits.1 now);
    }

pub counted_after : (s : Setting) (w : World) (c : Change) → s.snapshot ≡ false → 1 ≤ s.batch → IsSound w → AreCounted s.batch w → Fits s w c
    → AreCounted s.batch (after_change s.batch w c)
counted_after s w (change.Library l names) plain pos sound h fits = record { batches = h.batches; numbers = h.numbers; sources = h.sources }
counted_after s w (change.Data v) plain pos sound h fits = record { batches = h.batches; numbers = h.numbers; sources = h.sources }
counted_after s w (change.Process n) plain pos sound h fits =
    let new = made (next_number w) n in
    let records = w.records ++ new ∷ [] in
    record {
      batches = h.batches;
      numbers = All-push (NumbersFit s.batch) w.records new h.numbers (record { started = omega arith; ended = omega arith; ends = refl });
      sources = All-push (λ x. SourceIs ended records x.started x.cached_from) w.records new
          (All-weaker (λ x. SourceIs ended w.records x.started x.cached_from) (λ x. SourceIs ended records x.started x.cached_from)
          (λ x p. source_kept ended w.records records x.started x.cached_from (push_keeps w.records (new ∷ [])) p) w.records h.sources)
          tt;
    }
counted_after s w (change.Link l) plain pos sound h fits = record { batches = h.batches; numbers = h.numbers; sources = h.sources }
counted_after s w (change.Set c) plain pos sound h fits = counted_set s w c plain pos sound h fits
counted_after s w (change.Count n) plain pos sound h fits = absurd (cc (plain, fits.0))
counted_after s w (change.Kept k) plain pos sound h fits = absurd (cc (plain, kept_in_snapshot s k (find_record k.pid w.records) fits))

pub counted_changed : (s : Setting) (w : World) (cs : List Change) → s.snapshot ≡ false → 1 ≤ s.batch → IsSound w → AreCounted s.batch w → Apply s w cs
    → AreCounted s.batch (changed s.batch w cs)
counted_changed s w [] plain pos sound h a = h
counted_changed s w (c ∷ cs) plain pos sound h a =
    counted_changed s (after_change s.batch w c) cs plain pos (sound_after s w c sound a.0) (counted_after s w c plain pos sound h a.0) a.1
