-- What a sound world keeps of codes and sources.
use Rattle.std.proofs.Common.{◌≡◌, ℕ, ◌<◌, ◌≤◌, Bool, true, false, Option, Some, None, refl, sym, ap, subst, ◌∙◌, arith}
use Rattle.std.specs.Prelude.{if◌then◌else◌, nat_lt, nat_le, ◌&&◌, ◌==◌}
use Rattle.std.proofs.lemmas.Bool.{eqb-true, ltb-true, leb-true}
use Rattle.wc_value.specs.declared.process.ProcessState.TheVariants as state
use Rattle.wc_semantics.specs.declared.outcomes.Parsed.{Parsed}
use Rattle.wc_state.specs.declared.record.ProcessKind.TheVariants as kind
use Rattle.wc_state.specs.declared.record.ProcessRecord.{ProcessRecord}
use Rattle.wc_world.specs.World.{World}
use Rattle.wc_world.specs.Consistent.{Stands, is_earlier_source, source_stands}
use Rattle.wc_world.specs.Records.{find_record, has_ended, is_calculation}
use Rattle.wc_world.proofs.FoundRecords.{found_holds, left, right}
use Rattle.wc_machine.specs.Created.{KeepsNoCode, GivenFor, killed, cached, function, job, no_request, IsGiven}
use Rattle.wc_machine.specs.Sound.{IsFitting, IsSound}

-- not both a code and a source, and a killed job has no code
pub record KeepsOne (r : ProcessRecord) : Type 0 where
  pub one : r.kind ≡ kind.Job → (source : ℕ) → r.cached_from ≡ Some source → r.code ≡ None
  pub none : r.kind ≡ kind.Job → r.state ≡ state.Killed → r.code ≡ None

-- a source is there, and ended before this started
abbrev pub HasEarlierSource : World → ProcessRecord → Type 0
HasEarlierSource w r = (source : ℕ) → r.cached_from ≡ Some source
    → (q : ProcessRecord) × (find_record source w.records ≡ Some q) × (0 < q.ended) × (q.ended < r.started)

-- The records of a world keep these rules.
pub record IsWellKept (w : World) : Type 0 where
  pub one : (r : ProcessRecord) → find_record r.node w.records ≡ Some r → KeepsOne r
  pub sources : (r : ProcessRecord) → find_record r.node w.records ≡ Some r → HasEarlierSource w r
  pub ends : (r : ProcessRecord) → find_record r.node w.records ≡ Some r → 0 < r.ended → r.started ≤ r.ended
  pub starts : (r : ProcessRecord) → find_record r.node w.records ≡ Some r → r.started ≤ w.batches

one_found : (o : Option ProcessRecord) (r q : ProcessRecord) → o ≡ Some r → o ≡ Some q → r ≡ q
one_found o r q h k = let e : Some r ≡ Some q = sym h ∙ k in cc

-- ---- what is given for a process

module _ (w : World) (pid : ℕ) (r : ProcessRecord) (found : find_record pid w.records ≡ Some r) (is_job : r.kind ≡ kind.Job) where
  given_one : (p : Parsed) → GivenFor w pid p → (source : ℕ) → r.cached_from ≡ Some source → r.code ≡ None
  given_one p (killed q f dead bare) s c = subst KeepsNoCode (one_found (find_record q.node w.records) q r f found) bare is_job
  given_one p (cached q source y f live bare from g) s c = subst KeepsNoCode (one_found (find_record q.node w.records) q r f found) bare is_job
  given_one p (function q x f live none d) s c =
      let e : q.cached_from ≡ r.cached_from = ap (λ (x : ProcessRecord). x.cached_from) (one_found (find_record q.node w.records) q r f found) in absurd (cc (e, none, c))
  given_one p (job q j a code files f live none d is folder asked) s c =
      let e : q.cached_from ≡ r.cached_from = ap (λ (x : ProcessRecord). x.cached_from) (one_found (find_record q.node w.records) q r f found) in absurd (cc (e, none, c))
  given_one p (no_request q j reason f live none d bare asked) s c =
      let e : q.cached_from ≡ r.cached_from = ap (λ (x : ProcessRecord). x.cached_from) (one_found (find_record q.node w.records) q r f found) in absurd (cc (e, none, c))

  given_killed : (p : Parsed) → GivenFor w pid p → r.state ≡ state.Killed → r.code ≡ None
  given_killed p (killed q f dead bare) k = subst KeepsNoCode (one_found (find_record q.node w.records) q r f found) bare is_job
  given_killed p (cached q source y f live bare from g) k = subst KeepsNoCode (one_found (find_record q.node w.records) q r f found) bare is_job
  given_killed p (function q x f live none d) k =
      absurd (live (ap (λ (x : ProcessRecord). x.state) (one_found (find_record q.node w.records) q r f found) ∙ k))
  given_killed p (job q j a code files f live none d is folder asked) k =
      absurd (live (ap (λ (x : ProcessRecord). x.state) (one_found (find_record q.node w.records) q r f found) ∙ k))
  given_killed p (no_request q j reason f live none d bare asked) k =
      absurd (live (ap (λ (x : ProcessRecord). x.state) (one_found (find_record q.node w.records) q r f found) ∙ k))

-- ---- a record

earlier_source : (w : World) (r : ProcessRecord) → source_stands w.records r r.cached_from ≡ true → HasEarlierSource w r
earlier_source w r stands source c =
    at (find_record source w.records) refl (right (nat_lt 0 source) _ (ap (λ (o : Option ℕ). source_stands w.records r o) (sym c) ∙ stands))
  where
    at : (o : Option ProcessRecord) → find_record source w.records ≡ o → is_earlier_source r o ≡ true
        → (q : ProcessRecord) × (find_record source w.records ≡ Some q) × (0 < q.ended) × (q.ended < r.started)
    at None h e = absurd (cc)
    at (Some q) h e =
        let t = right (is_calculation q.kind) (nat_lt 0 q.ended && nat_lt q.ended r.started) e in
        (q, h, ltb-true 0 q.ended (left (nat_lt 0 q.ended) _ t), ltb-true q.ended r.started (right (nat_lt 0 q.ended) _ t))

ends_later : (r : ProcessRecord) (b : Bool) → (if b then nat_lt 0 r.ended && nat_le r.started r.ended else (r.ended == 0)) ≡ true → 0 < r.ended → r.started ≤ r.ended
ends_later r true h l = leb-true r.started r.ended (right (nat_lt 0 r.ended) _ h)
ends_later r false h l = let z : r.ended ≡ 0 = eqb-true r.ended 0 h in absurd (omega arith)

module _ (w : World) (s : IsSound w) where
  given : (r : ProcessRecord) → find_record r.node w.records ≡ Some r → r.kind ≡ kind.Job → has_ended r.state ≡ true → IsGiven w r
  given r found is_job over =
      found_holds (λ q. is_calculation q.kind ≡ true → has_ended q.state ≡ true → IsGiven w q) r.node w.records r s.created.ended found (ap is_calculation is_job) over

  keeps_one : (r : ProcessRecord) → find_record r.node w.records ≡ Some r → KeepsOne r
  keeps_one r found = record {
    one = λ is_job source c. by_end is_job source c (has_ended r.state) refl;
    none = λ is_job dead. let g = given r found is_job (ap has_ended dead) in given_killed w r.node r found is_job g.0 g.1 dead;
  }
    where
      by_end : r.kind ≡ kind.Job → (source : ℕ) → r.cached_from ≡ Some source → (b : Bool) → has_ended r.state ≡ b → r.code ≡ None
      by_end is_job source c true h = let g = given r found is_job h in given_one w r.node r found is_job g.0 g.1 source c
      by_end is_job source c false h =
          let fits : IsFitting w r = found_holds (IsFitting w) r.node w.records r s.records found in
          absurd (cc (fits.source h, c))

  stands : (r : ProcessRecord) → find_record r.node w.records ≡ Some r → Stands w r
  stands r found = found_holds (Stands w) r.node w.records r s.consistent.records found

  pub well_kept : IsWellKept w
  well_kept = record {
    one = keeps_one;
    sources = λ r found. earlier_source w r (stands r found).source;
    ends = λ r found. ends_later r (has_ended r.state) (stands r found).ends;
    starts = λ r found. (stands r found).started;
  }
