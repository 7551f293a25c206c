-- In a snapshot the numbers of each process are those of its Kept.
use Rattle.std.proofs.Common.{◌≡◌, ℕ, suc, ◌<◌, ◌≤◌, Bool, true, false, Option, Some, None, List, [], ◌∷◌, ◌++◌, map, length, get_or, ◌⊎◌, inl, inr, sym, ap, ◌∙◌, subst, arith}
use Rattle.std.specs.Prelude.{All, ◌==◌, ◌&&◌, nat_le, if◌then◌else◌}
use Rattle.std.specs.List.{list_all}
use Rattle.std.proofs.lemmas.Bool.{and_parts, leb-true, eqb-true, eq-eqb, ne_eqb, cond-true, cond-false}
use Rattle.std.proofs.lemmas.List.{length_push}
use Rattle.std.proofs.lemmas.List.Elements.{All-push, All-weaker}
use Rattle.wc_graph.specs.declared.node.NodeKind.{NodeKind}
use Rattle.wc_graph.specs.declared.node.NodeKind.TheVariants as node
use Rattle.wc_state.specs.declared.record.ProcessRecord.{ProcessRecord}
use Rattle.wc_world.specs.declared.change.Change.{Change}
use Rattle.wc_world.specs.declared.change.Change.TheVariants as change
use Rattle.wc_records.specs.declared.change.SetProcess.{SetProcess}
use Rattle.wc_records.specs.declared.change.Kept.{Kept}
use Rattle.wc_world.specs.World.{World}
use Rattle.wc_world.specs.Records.{find_record, process_node}
use Rattle.wc_world.specs.Applied.{next_number, made, set, keep, started_in, source_of, after_change, changed}
use Rattle.wc_world.specs.Accepted.{Setting, Fits, Apply, kepts, count_in, made_from, ends_in_count, is_in_order, how_often, kept_of, kept_started, kept_ended, kept_fits, ended_fits, source_fits}
use Rattle.wc_world.proofs.ReachedLists.{found_has, at_one, all_at, all_at_apart, all_found, unique}
use Rattle.wc_world.proofs.ReachedGrown.{Grows, grows}
use Rattle.wc_world.proofs.ReachedSound.{IsSound, sound_after}
use Rattle.wc_world.proofs.ReachedSources.{SourceIs, KeepsSources, source_kept, source_set}
use Rattle.wc_world.proofs.ReachedCounted.{ended, NumbersFit, AreCounted}

-- the numbers of the Kept of this process
abbrev pub kept_first : Setting → ProcessRecord → ℕ
kept_first s r = kept_started (kept_of r.node (kepts s.all))

abbrev pub kept_last : Setting → ProcessRecord → ℕ
kept_last s r = kept_ended (kept_of r.node (kepts s.all))

-- ---- sources
abbrev pub SourceKept : Setting → List ProcessRecord → ProcessRecord → Type 0
SourceKept s records r = SourceIs (kept_last s) records (kept_first s r) r.cached_from

kept_sources : (s : Setting) (w v : World) → Grows w v → KeepsSources (kept_last s) w.records v.records
kept_sources s w v g pid q h lt =
    let p = g.processes pid q h in
    (p.0, p.1, p.2.kind, ap (λ (n : ℕ). kept_ended (kept_of n (kepts s.all))) p.2.node)

source_grows : (s : Setting) (w v : World) → Grows w v → (r : ProcessRecord) → SourceKept s w.records r → SourceKept s v.records r
source_grows s w v g r h = source_kept (kept_last s) w.records v.records (kept_first s r) r.cached_from (kept_sources s w v g) h

source_now : (s : Setting) (w : World) (c : SetProcess) (r : ProcessRecord) → s.snapshot ≡ true → source_fits s w c r ≡ true
    → SourceIs (kept_last s) w.records (kept_first s r) (source_of c.cached_from)
source_now s w c r e h =
    subst (λ (b : Bool). SourceIs (λ q. if b then kept_ended (kept_of q.node (kepts s.all)) else q.ended) w.records
    (if b then kept_started (kept_of r.node (kepts s.all)) else started_in s.batch r c.state) (source_of c.cached_from)) e (source_set s w c r h)

pub sources_after : (s : Setting) (w : World) (c : Change) → s.snapshot ≡ true → IsSound w → All (SourceKept s w.records) w.records → Fits s w c
    → All (SourceKept s (after_change s.batch w c).records) (after_change s.batch w c).records
sources_after s w (change.Library l names) is sound h fits = h
sources_after s w (change.Data v) is sound h fits = h
sources_after s w (change.Process n) is sound h fits =
    let v = after_change s.batch w (change.Process n) in
    All-push (SourceKept s v.records) w.records (made (next_number w) n)
    (All-weaker (SourceKept s w.records) (SourceKept s v.records) (source_grows s w v (grows s.batch w (change.Process n))) w.records h)
    tt
sources_after s w (change.Link l) is sound h fits = h
sources_after s w (change.Set c) is sound h fits =
    let v = after_change s.batch w (change.Set c) in
    let g = grows s.batch w (change.Set c) in
    let r = fits.0 in
    all_at (SourceKept s w.records) (SourceKept s v.records) c.pid (set s.batch c) w.records (source_grows s w v g) h
    (all_found (λ x. SourceKept s v.records (set s.batch c x)) c.pid w.records r (unique 1 w.nodes w.records sound.numbered) fits.1
    (source_kept (kept_last s) w.records v.records (kept_first s r) (source_of c.cached_from) (kept_sources s w v g) (source_now s w c r is fits.3)))
sources_after s w (change.Count n) is sound h fits = h
sources_after s w (change.Kept k) is sound h fits =
    let v = after_change s.batch w (change.Kept k) in
    let g = grows s.batch w (change.Kept k) in
    all_at (SourceKept s w.records) (SourceKept s v.records) k.pid (keep k) w.records (source_grows s w v g) h
    (λ i d lt e. source_grows s w v g (get_or w.records i d) (h i d lt))

pub sources_changed : (s : Setting) (w : World) (cs : List Change) → s.snapshot ≡ true → IsSound w → All (SourceKept s w.records) w.records → Apply s w cs
    → All (SourceKept s (changed s.batch w cs).records) (changed s.batch w cs).records
sources_changed s w [] is sound h a = h
sources_changed s w (c ∷ cs) is sound h a =
    sources_changed s (after_change s.batch w c) cs is (sound_after s w c sound a.0) (sources_after s w c is sound h a.0) a.1

-- ---- Kepts
-- the numbers are those of the Kept
pub record IsKept (s : Setting) (r : ProcessRecord) : Type 0 where
  pub first : r.started ≡ kept_first s r
  pub last : r.ended ≡ kept_last s r
  pub numbers : NumbersFit (count_in s.all) r

-- The record has its numbers, or there is a Kept for it to come.
abbrev pub IsKeptBy : Setting → List Kept → ProcessRecord → Type 0
IsKeptBy s ks r =
    ((how_often r.node ks ≡ 0) × IsKept s r)
    ⊎ ((how_often r.node ks ≡ 1) × (kept_of r.node ks ≡ kept_of r.node (kepts s.all)))

kept_other : (s : Setting) (k : Kept) (ks : List Kept) (r : ProcessRecord) → (r.node ≡ k.pid → ⊥) → IsKeptBy s (k ∷ ks) r → IsKeptBy s ks r
kept_other s k ks r ne h =
    let b : (k.pid == r.node) ≡ false = ne_eqb k.pid r.node (λ e. ne (sym e)) in
    let n : how_often r.node (k ∷ ks) ≡ how_often r.node ks = cond-false (k.pid == r.node) (suc (how_often r.node ks)) (how_often r.node ks) b in
    let o : kept_of r.node (k ∷ ks) ≡ kept_of r.node ks = cond-false (k.pid == r.node) (Some k) (kept_of r.node ks) b in
    elim h [
      | inl p ↦ inl (sym n ∙ p.0, p.1)
      | inr p ↦ inr (sym n ∙ p.0, sym o ∙ p.1)
    ]

-- what a Kept that fits says
kept_numbers : (s : Setting) (k : Kept) (r : ProcessRecord) → kept_fits s k (Some r) ≡ true → NumbersFit (count_in s.all) (keep k r)
kept_numbers s k r h =
    let a = and_parts s.snapshot (nat_le k.started (count_in s.all) && (nat_le k.ended (count_in s.all) && ended_fits k r)) h in
    let b = and_parts (nat_le k.started (count_in s.all)) (nat_le k.ended (count_in s.all) && ended_fits k r) a.1 in
    let c = and_parts (nat_le k.ended (count_in s.all)) (ended_fits k r) b.1 in
    record { started = leb-true k.started (count_in s.all) b.0; ended = leb-true k.ended (count_in s.all) c.0; ends = c.1 }

kept_one : (s : Setting) (k : Kept) (ks : List Kept) (r : ProcessRecord) → r.node ≡ k.pid → kept_fits s k (Some r) ≡ true → IsKeptBy s (k ∷ ks) r
    → IsKeptBy s ks (keep k r)
kept_one s k ks r e fits h =
    let b : (k.pid == r.node) ≡ true = eq-eqb k.pid r.node (sym e) in
    let n : how_often r.node (k ∷ ks) ≡ suc (how_often r.node ks) = cond-true (k.pid == r.node) (suc (how_often r.node ks)) (how_often r.node ks) b in
    let o : kept_of r.node (k ∷ ks) ≡ Some k = cond-true (k.pid == r.node) (Some k) (kept_of r.node ks) b in
    elim h [
      | inl p ↦ let z : how_often r.node (k ∷ ks) ≡ 0 = p.0 in absurd (omega arith)
      | inr p ↦
          let one : how_often r.node (k ∷ ks) ≡ 1 = p.0 in
          let is : Some k ≡ kept_of r.node (kepts s.all) = sym o ∙ p.1 in
          inl (omega arith, record { first = ap kept_started is; last = ap kept_ended is; numbers = kept_numbers s k r fits })
    ]

kept_after : (s : Setting) (w : World) (k : Kept) (ks : List Kept) → IsSound w → kept_fits s k (find_record k.pid w.records) ≡ true → All (IsKeptBy s (k ∷ ks)) w.records
    → All (IsKeptBy s ks) (map (at_one k.pid (keep k)) w.records)
kept_after s w k ks sound fits all =
    all_at_apart (IsKeptBy s ks) k.pid (keep k) w.records
    (λ i d lt ne. kept_other s k ks (get_or w.records i d) ne (all i d lt))
    (λ i d lt e.
    let r = get_or w.records i d in
    let f : find_record k.pid w.records ≡ Some r = ap (λ (n : ℕ). find_record n w.records) (sym e) ∙ unique 1 w.nodes w.records sound.numbered i d lt in
    kept_one s k ks r e (ap (kept_fits s k) (sym f) ∙ fits) (all i d lt))

-- what holds after the Count
pub record AllKept (s : Setting) (w : World) : Type 0 where
  pub kept : All (IsKept s) w.records
  pub batches : w.batches ≡ count_in s.all
  pub few : count_in s.all ≤ 4000000000

kept_last_one : (s : Setting) (r : ProcessRecord) → IsKeptBy s [] r → IsKept s r
kept_last_one s r h = elim h [ inl p ↦ p.1 | inr p ↦ absurd (cc p.0) ]

-- Kepts and the Count
kept_changed : (s : Setting) (w : World) (cs : List Change) → ends_in_count cs ≡ true → count_in cs ≡ count_in s.all → IsSound w
    → All (IsKeptBy s (kepts cs)) w.records → Apply s w cs → AllKept s (changed s.batch w cs)
kept_changed s w [] e n sound h a = absurd (cc)
kept_changed s w (change.Library l names ∷ cs) e n sound h a = absurd (cc)
kept_changed s w (change.Data v ∷ cs) e n sound h a = absurd (cc)
kept_changed s w (change.Process p ∷ cs) e n sound h a = absurd (cc)
kept_changed s w (change.Link l ∷ cs) e n sound h a = absurd (cc)
kept_changed s w (change.Set c ∷ cs) e n sound h a = absurd (cc)
kept_changed s w (change.Count m ∷ []) e n sound h a = record {
  kept = All-weaker (IsKeptBy s []) (IsKept s) (kept_last_one s) w.records h;
  batches = n;
  few = let le : m ≤ 4000000000 = a.0.1 in omega (arith, n);
}
kept_changed s w (change.Count m ∷ (c ∷ cs)) e n sound h a = absurd (cc)
kept_changed s w (change.Kept k ∷ cs) e n sound h a =
    kept_changed s (after_change s.batch w (change.Kept k)) cs e n (sound_after s w (change.Kept k) sound a.0) (kept_after s w k (kepts cs) sound a.0 h) a.1

-- ---- the changes before the Kepts
abbrev pub HasOneKept : Setting → ProcessRecord → Type 0
HasOneKept s r = how_often r.node (kepts s.all) ≡ 1

-- each process that the changes make, where this is the next number, has one Kept
abbrev pub HaveOneKept : Setting → ℕ → List Change → Type 0
HaveOneKept s next cs = list_all (λ pid. how_often pid (kepts s.all) == 1) (made_from next cs) ≡ true

one_kept_set : (s : Setting) (c : SetProcess) (records : List ProcessRecord) → All (HasOneKept s) records → All (HasOneKept s) (map (at_one c.pid (set s.batch c)) records)
one_kept_set s c records h = all_at (HasOneKept s) (HasOneKept s) c.pid (set s.batch c) records (λ x p. p) h (λ i d lt e. h i d lt)

awaits : (s : Setting) (ks : List Kept) (r : ProcessRecord) → ks ≡ kepts s.all → HasOneKept s r → IsKeptBy s ks r
awaits s ks r e h = inr (ap (how_often r.node) e ∙ h, ap (kept_of r.node) e)

one_more : (s : Setting) (nodes : List NodeKind) (x : NodeKind) (cs : List Change)
    → HaveOneKept s (suc (suc (length nodes))) cs → HaveOneKept s (suc (length (nodes ++ x ∷ []))) cs
one_more s nodes x cs h =
    let e : suc (suc (length nodes)) ≡ suc (length (nodes ++ x ∷ [])) = omega (arith, length_push nodes x) in
    subst (λ (n : ℕ). HaveOneKept s n cs) e h

pub snapshot_changed : (s : Setting) (w : World) (cs : List Change) → is_in_order cs ≡ true → kepts cs ≡ kepts s.all → count_in cs ≡ count_in s.all
    → IsSound w → All (HasOneKept s) w.records → HaveOneKept s (suc (length w.nodes)) cs → Apply s w cs → AllKept s (changed s.batch w cs)
snapshot_changed s w [] e ks n sound h more a = absurd (cc)
snapshot_changed s w (change.Library l names ∷ cs) e ks n sound h more a =
    snapshot_changed s (after_change s.batch w (change.Library l names)) cs e ks n (sound_after s w (change.Library l names) sound a.0) h more a.1
snapshot_changed s w (change.Data v ∷ cs) e ks n sound h more a =
    snapshot_changed s (after_change s.batch w (change.Data v)) cs e ks n (sound_after s w (change.Data v) sound a.0) h (one_more s w.nodes (node.Data v) cs more) a.1
snapshot_changed s w (change.Process p ∷ cs) e ks n sound h more a =
    let b = and_parts (how_often (suc (length w.nodes)) (kepts s.all) == 1)
    (list_all (λ pid. how_often pid (kepts s.all) == 1) (made_from (suc (suc (length w.nodes))) cs)) more in
    let next : suc (length w.nodes) ≡ next_number w = omega arith in
    let one : how_often (next_number w) (kepts s.all) ≡ 1 =
    ap (λ (m : ℕ). how_often m (kepts s.all)) (sym next) ∙ eqb-true (how_often (suc (length w.nodes)) (kepts s.all)) 1 b.0 in
    snapshot_changed s (after_change s.batch w (change.Process p)) cs e ks n (sound_after s w (change.Process p) sound a.0)
    (All-push (HasOneKept s) w.records (made (next_number w) p) h one) (one_more s w.nodes (process_node p.kind) cs b.1) a.1
snapshot_changed s w (change.Link l ∷ cs) e ks n sound h more a =
    snapshot_changed s (after_change s.batch w (change.Link l)) cs e ks n (sound_after s w (change.Link l) sound a.0) h more a.1
snapshot_changed s w (change.Set c ∷ cs) e ks n sound h more a =
    snapshot_changed s (after_change s.batch w (change.Set c)) cs e ks n (sound_after s w (change.Set c) sound a.0) (one_kept_set s c w.records h) more a.1
snapshot_changed s w (change.Count m ∷ cs) e ks n sound h more a =
    kept_changed s w (change.Count m ∷ cs) e n sound
    (All-weaker (HasOneKept s) (IsKeptBy s (kepts cs)) (λ x. awaits s (kepts cs) x ks) w.records h) a
snapshot_changed s w (change.Kept k ∷ cs) e ks n sound h more a =
    kept_changed s w (change.Kept k ∷ cs) e n sound
    (All-weaker (HasOneKept s) (IsKeptBy s (k ∷ kepts cs)) (λ x. awaits s (k ∷ kepts cs) x ks) w.records h) a

-- ---- at the end
source_as : (s : Setting) (records : List ProcessRecord) (started first : ℕ) (o : Option ℕ) → All (IsKept s) records → started ≡ first
    → SourceIs (kept_last s) records first o → SourceIs ended records started o
source_as s records started first None all e h = tt
source_as s records started first (Some pid) all e h =
    let q = h.1.0 in
    let k : IsKept s q = found_has (IsKept s) pid records q h.1.1 all in
    let same : q.ended ≡ kept_last s q = k.last in
    let pos : 0 < kept_last s q = h.1.3 in
    let lt : kept_last s q < first = h.1.4 in
    (h.0, (q, h.1.1, h.1.2, omega arith, omega arith))

pub snapshot_counted : (s : Setting) (w : World) → AllKept s w → All (SourceKept s w.records) w.records → AreCounted (count_in s.all) w
snapshot_counted s w h sources = record {
  batches = h.batches;
  numbers = All-weaker (IsKept s) (NumbersFit (count_in s.all)) (λ x k. k.numbers) w.records h.kept;
  sources = λ i d lt.
      let r = get_or w.records i d in
      source_as s w.records r.started (kept_first s r) r.cached_from h.kept (h.kept i d lt).first (sources i d lt);
}
