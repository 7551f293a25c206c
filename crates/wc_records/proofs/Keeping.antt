-- An index after it is kept when a process started and ended.
use Rattle.std.proofs.Common.{◌≡◌, ℕ, ◌+◌, Bool, true, false, cond, List, [], ◌∷◌, get_or, map, Option, Some, refl, sym, ap, ◌∙◌}
use Rattle.std.specs.Prelude.{if◌then◌else◌, ◌==◌, not, filter, count_by}
use Rattle.std.proofs.lemmas.List.Sums.{sum_by-cons}
use Rattle.wc_state.specs.declared.record.ProcessRecord.{ProcessRecord}
use Rattle.wc_records.specs.declared.change.Kept.{Kept}
use Rattle.wc_records.specs.declared.index.Index.{Index}
use Rattle.wc_records.specs.Records.{find_record, at_process, has_ended}
use Rattle.wc_records.specs.Changes.{keep}
use Rattle.wc_records.specs.Readiness.{waits_later, is_over, is_ready, waits_until, awaits_of}
use Rattle.wc_records.specs.Index.{passed_by, chosen, IsIndexOf}
use Rattle.wc_records.proofs.Chosen.{chosen_same}
use Rattle.wc_records.proofs.Counted.{first_alike, ready_alike}

-- what is said of a record whatever its batches are is said of the one that is found
found_kept : (says : Option ProcessRecord → Bool) (k : Kept) (n : ℕ) (rs : List ProcessRecord) → ((r : ProcessRecord) → says (Some (keep k r)) ≡ says (Some r))
    → says (find_record n (at_process k.pid (keep k) rs)) ≡ says (find_record n rs)
found_kept says k n [] h = refl
found_kept says k n (r ∷ rs) h = by_test (r.node == k.pid) (found_kept says k n rs h)
  where
    by_found : (c : Bool) (q : ProcessRecord) → says (Some q) ≡ says (Some r) → says (find_record n (at_process k.pid (keep k) rs)) ≡ says (find_record n rs)
        → says (if c then Some q else find_record n (at_process k.pid (keep k) rs)) ≡ says (if c then Some r else find_record n rs)
    by_found true q here rest = here
    by_found false q here rest = rest

    by_test : (b : Bool) → says (find_record n (at_process k.pid (keep k) rs)) ≡ says (find_record n rs)
        → says (if (if b then keep k r else r).node == n then Some (if b then keep k r else r) else find_record n (at_process k.pid (keep k) rs))
        ≡ says (if r.node == n then Some r else find_record n rs)
    by_test true rest = by_found (r.node == n) (keep k r) (h r) rest
    by_test false rest = by_found (r.node == n) r refl rest

passed_kept : (k : Kept) (rs : List ProcessRecord) (r : ProcessRecord) → passed_by (at_process k.pid (keep k) rs) r ≡ passed_by rs r
passed_kept k rs r = first_alike rs (at_process k.pid (keep k) rs) (awaits_of r.part) (λ n. found_kept is_over k n rs (λ q. refl))

mapped_kept : {T : Type 0} (f : ProcessRecord → T) (k : Kept) → ((r : ProcessRecord) → f (keep k r) ≡ f r) → (rs : List ProcessRecord) → map f (at_process k.pid (keep k) rs) ≡ map f rs
mapped_kept f k h [] = refl
mapped_kept f k h (r ∷ rs) = λ i. first (r.node == k.pid) i ∷ mapped_kept f k h rs i
  where
    first : (b : Bool) → f (if b then keep k r else r) ≡ f r
    first true = h r
    first false = refl

map_agrees : (f g : ProcessRecord → ℕ) → ((r : ProcessRecord) → f r ≡ g r) → (rs : List ProcessRecord) → map f rs ≡ map g rs
map_agrees f g h [] = refl
map_agrees f g h (r ∷ rs) = λ i. h r i ∷ map_agrees f g h rs i

chosen_kept : (test : ProcessRecord → Bool) (k : Kept) → ((r : ProcessRecord) → test (keep k r) ≡ test r) → (rs : List ProcessRecord)
    → chosen test (at_process k.pid (keep k) rs) ≡ chosen test rs
chosen_kept test k h [] = refl
chosen_kept test k h (r ∷ rs) = by_test (r.node == k.pid) (chosen_kept test k h rs)
  where
    by_answer : (c : Bool) (q : ProcessRecord) → q.node ≡ r.node → chosen test (at_process k.pid (keep k) rs) ≡ chosen test rs
        → map (λ (p : ProcessRecord). p.node) (cond c (q ∷ filter test (at_process k.pid (keep k) rs)) (filter test (at_process k.pid (keep k) rs)))
        ≡ map (λ (p : ProcessRecord). p.node) (cond c (r ∷ filter test rs) (filter test rs))
    by_answer true q same rest = λ i. same i ∷ rest i
    by_answer false q same rest = rest

    by_test : (b : Bool) → chosen test (at_process k.pid (keep k) rs) ≡ chosen test rs → chosen test ((if b then keep k r else r) ∷ at_process k.pid (keep k) rs) ≡ chosen test (r ∷ rs)
    by_test true rest =
        ap (λ (c : Bool). map (λ (p : ProcessRecord). p.node) (cond c (keep k r ∷ filter test (at_process k.pid (keep k) rs)) (filter test (at_process k.pid (keep k) rs)))) (h r)
        ∙ by_answer (test r) (keep k r) refl rest
    by_test false rest = by_answer (test r) r refl rest

counted_kept : (test : ProcessRecord → Bool) (k : Kept) → ((r : ProcessRecord) → test (keep k r) ≡ test r) → (rs : List ProcessRecord)
    → count_by test (at_process k.pid (keep k) rs) ≡ count_by test rs
counted_kept test k h [] = refl
counted_kept test k h (r ∷ rs) =
    sum_by-cons (λ (q : ProcessRecord). cond (test q) 1 0) (if r.node == k.pid then keep k r else r) (at_process k.pid (keep k) rs)
    ∙ (λ i. cond (first (r.node == k.pid) i) 1 0 + counted_kept test k h rs i)
    ∙ sym (sum_by-cons (λ (q : ProcessRecord). cond (test q) 1 0) r rs)
  where
    first : (b : Bool) → test (if b then keep k r else r) ≡ test r
    first true = h r
    first false = refl

pub index_kept : (k : Kept) (rs : List ProcessRecord) (x : Index) → IsIndexOf rs x → IsIndexOf (at_process k.pid (keep k) rs) x
index_kept k rs x index = record {
  passed = index.passed ∙ map_agrees (passed_by rs) (passed_by (at_process k.pid (keep k) rs)) (λ r. sym (passed_kept k rs r)) rs
      ∙ sym (mapped_kept (passed_by (at_process k.pid (keep k) rs)) k (λ r. refl) rs);
  at_once = index.at_once ∙ chosen_same (is_ready rs 0) (is_ready (at_process k.pid (keep k) rs) 0) rs
      (λ i d lt. sym (ready_alike rs (at_process k.pid (keep k) rs) (get_or rs i d) (passed_kept k rs (get_or rs i d))))
      ∙ sym (chosen_kept (is_ready (at_process k.pid (keep k) rs) 0) k (λ r. refl) rs);
  later = record {
    order = index.later.order;
    exact = λ due n. index.later.exact due n ∙ sym (found_kept (waits_until due) k n rs (λ r. refl));
    count = index.later.count ∙ sym (counted_kept waits_later k (λ r. refl) rs);
  };
  live = index.live ∙ sym (counted_kept (λ (r : ProcessRecord). not (has_ended r.state)) k (λ r. refl) rs);
}
