-- The process whose outcome another one took.
use Rattle.std.proofs.Common.{◌≡◌, ℕ, zero, suc, ◌<◌, Bool, true, false, Option, Some, None, List, refl, ap, ◌∙◌, arith}
use Rattle.std.specs.Prelude.{◌==◌, ◌&&◌, ◌||◌, nat_lt, if◌then◌else◌}
use Rattle.std.proofs.lemmas.Bool.{and_parts, and_from, ltb-true, lt-ltb, eqb-false}
use Rattle.wc_state.specs.declared.record.ProcessRecord.{ProcessRecord}
use Rattle.wc_records.specs.declared.change.SetProcess.{SetProcess}
use Rattle.wc_world.specs.World.{World}
use Rattle.wc_world.specs.Records.{find_record, is_calculation}
use Rattle.wc_world.specs.Applied.{source_of}
use Rattle.wc_world.specs.Accepted.{Setting, ended_before, started_after, is_source, source_fits}
use Rattle.wc_world.specs.Consistent.{is_earlier_source, source_stands}

-- The process is a calculation, and it ended in a batch before this one, by what a function says of when processes ended.
abbrev pub SourceIn : (ProcessRecord → ℕ) → List ProcessRecord → ℕ → ℕ → Type 0
SourceIn ended records started pid =
    (q : ProcessRecord) × (find_record pid records ≡ Some q) × (is_calculation q.kind ≡ true) × (0 < ended q) × (ended q < started)

-- There is no source, or it is such a process.
abbrev pub SourceIs : (ProcessRecord → ℕ) → List ProcessRecord → ℕ → Option ℕ → Type 0
SourceIs ended records started None = Unit {0}
SourceIs ended records started (Some pid) = (0 < pid) × SourceIn ended records started pid

-- Each process that ended is found again, and ended when it did.
abbrev pub KeepsSources : (ProcessRecord → ℕ) → List ProcessRecord → List ProcessRecord → Type 0
KeepsSources ended records after =
    (pid : ℕ) (q : ProcessRecord) → find_record pid records ≡ Some q → 0 < ended q
    → (p : ProcessRecord) × (find_record pid after ≡ Some p) × (p.kind ≡ q.kind) × (ended p ≡ ended q)

pub source_kept : (ended : ProcessRecord → ℕ) (records after : List ProcessRecord) (started : ℕ) (o : Option ℕ) → KeepsSources ended records after
    → SourceIs ended records started o → SourceIs ended after started o
source_kept ended records after started None keeps h = tt
source_kept ended records after started (Some pid) keeps h =
    let q = h.1.0 in
    let p = keeps pid q h.1.1 h.1.3 in
    let e : ended p.0 ≡ ended q = p.3 in
    let lt : 0 < ended q = h.1.3 in
    let lt' : ended q < started = h.1.4 in
    (h.0, (p.0, p.1, ap is_calculation p.2 ∙ h.1.2, omega arith, omega arith))

-- ---- between the test and what it says
earlier_source : (r : ProcessRecord) (o : Option ProcessRecord) → is_earlier_source r o ≡ true
    → (q : ProcessRecord) × (o ≡ Some q) × (is_calculation q.kind ≡ true) × (0 < q.ended) × (q.ended < r.started)
earlier_source r None h = absurd (cc)
earlier_source r (Some q) h =
    let a = and_parts (is_calculation q.kind) (nat_lt 0 q.ended && nat_lt q.ended r.started) h in
    let b = and_parts (nat_lt 0 q.ended) (nat_lt q.ended r.started) a.1 in
    (q, refl, a.0, ltb-true 0 q.ended b.0, ltb-true q.ended r.started b.1)

pub source_told : (records : List ProcessRecord) (r : ProcessRecord) (o : Option ℕ) → source_stands records r o ≡ true → SourceIs (λ q. q.ended) records r.started o
source_told records r None h = tt
source_told records r (Some pid) h =
    let a = and_parts (nat_lt 0 pid) (is_earlier_source r (find_record pid records)) h in
    (ltb-true 0 pid a.0, earlier_source r (find_record pid records) a.1)

pub source_from : (records : List ProcessRecord) (r : ProcessRecord) (o : Option ℕ) → SourceIs (λ q. q.ended) records r.started o → source_stands records r o ≡ true
source_from records r None h = refl
source_from records r (Some pid) h =
    let q = h.1.0 in
    let e : is_earlier_source r (find_record pid records) ≡ is_earlier_source r (Some q) = ap (is_earlier_source r) h.1.1 in
    and_from (nat_lt 0 pid) (is_earlier_source r (find_record pid records)) (lt-ltb 0 pid h.0)
    (e ∙ and_from (is_calculation q.kind) (nat_lt 0 q.ended && nat_lt q.ended r.started) h.1.2
    (and_from (nat_lt 0 q.ended) (nat_lt q.ended r.started) (lt-ltb 0 q.ended h.1.3) (lt-ltb q.ended r.started h.1.4)))

-- ---- a Set
set_source : (s : Setting) (c : SetProcess) (r : ProcessRecord) (o : Option ProcessRecord) → is_source s c r o ≡ true
    → (q : ProcessRecord) × (o ≡ Some q) × (is_calculation q.kind ≡ true) × (0 < ended_before s q) × (ended_before s q < started_after s c r)
set_source s c r None h = absurd (cc)
set_source s c r (Some q) h =
    let a = and_parts (is_calculation q.kind) (nat_lt 0 (ended_before s q) && nat_lt (ended_before s q) (started_after s c r)) h in
    let b = and_parts (nat_lt 0 (ended_before s q)) (nat_lt (ended_before s q) (started_after s c r)) a.1 in
    (q, refl, a.0, ltb-true 0 (ended_before s q) b.0, ltb-true (ended_before s q) (started_after s c r) b.1)

source_set_by : (ended : ProcessRecord → ℕ) (records : List ProcessRecord) (started n : ℕ) (b : Bool) → (n == 0) ≡ b
    → ((b ≡ false) → SourceIn ended records started n) → SourceIs ended records started (if b then None else Some n)
source_set_by ended records started n true e h = tt
source_set_by ended records started n false e h = (positive n (eqb-false n 0 e), h refl)
  where
    positive : (n : ℕ) → (n ≡ 0 → ⊥) → 0 < n
    positive zero ne = absurd (ne refl)
    positive (suc m) ne = omega arith

or_second : (a b : Bool) → (a || b) ≡ true → a ≡ false → b ≡ true
or_second true b h e = absurd (cc)
or_second false b h e = h

-- the source of a Set that fits
pub source_set : (s : Setting) (w : World) (c : SetProcess) (r : ProcessRecord) → source_fits s w c r ≡ true
    → SourceIs (ended_before s) w.records (started_after s c r) (source_of c.cached_from)
source_set s w c r h =
    source_set_by (ended_before s) w.records (started_after s c r) c.cached_from (c.cached_from == 0) refl
    (λ second. set_source s c r (find_record c.cached_from w.records) (or_second (c.cached_from == 0) (is_source s c r (find_record c.cached_from w.records)) h second))
