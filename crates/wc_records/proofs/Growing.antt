-- An index after a new process.
use Rattle.std.proofs.Common.{◌≡◌, ℕ, ◌+◌, Bool, true, false, cond, List, [], ◌∷◌, ◌++◌, length, get_or, map, Option, Some, None, refl, sym, ap, ◌∙◌, subst, arith}
use Rattle.std.specs.Prelude.{if◌then◌else◌, ◌==◌, not, filter, count_by}
use Rattle.std.proofs.lemmas.List.{map-append}
use Rattle.std.proofs.lemmas.List.Elements.{filter-append}
use Rattle.std.proofs.lemmas.List.Sums.{sum_by-append}
use Rattle.wc_state.specs.declared.record.ProcessRecord.{ProcessRecord}
use Rattle.wc_records.specs.declared.change.NewProcess.{NewProcess}
use Rattle.wc_records.specs.declared.index.Index.{Index}
use Rattle.wc_records.specs.Records.{find_record, has_ended}
use Rattle.wc_records.specs.Changes.{made}
use Rattle.wc_records.specs.Marked.{IsSorted}
use Rattle.wc_records.specs.Readiness.{waits_later, is_over, ended_at, is_ready, sooner, is_due_in, waits_until, AreDues}
use Rattle.wc_records.specs.Index.{passed_by, IsIndexOf}
use Rattle.wc_records.proofs.Chosen.{chosen_same}
use Rattle.wc_records.proofs.Counted.{first_alike, ready_alike}

-- what is said of the record found by a number, where a record that it isn't said of stands at the end
found_more : (says : Option ProcessRecord → Bool) (n : ℕ) (rs : List ProcessRecord) (m : ProcessRecord) → says None ≡ false → says (Some m) ≡ false
    → says (find_record n (rs ++ m ∷ [])) ≡ says (find_record n rs)
found_more says n [] m none some = by_test (m.node == n)
  where
    by_test : (b : Bool) → says (if b then Some m else None) ≡ says None
    by_test true = some ∙ sym none
    by_test false = refl
found_more says n (r ∷ rs) m none some = by_test (r.node == n) (found_more says n rs m none some)
  where
    by_test : (b : Bool) → says (find_record n (rs ++ m ∷ [])) ≡ says (find_record n rs)
        → says (if b then Some r else find_record n (rs ++ m ∷ [])) ≡ says (if b then Some r else find_record n rs)
    by_test true e = refl
    by_test false e = e

ended_more : (rs : List ProcessRecord) (n : ℕ) (p : NewProcess) (k : ℕ) → ended_at (rs ++ made n p ∷ []) k ≡ ended_at rs k
ended_more rs n p k = found_more is_over k rs (made n p) refl refl

passed_more : (rs : List ProcessRecord) (n : ℕ) (p : NewProcess) (r : ProcessRecord) → passed_by (rs ++ made n p ∷ []) r ≡ passed_by rs r
passed_more rs n p r = first_alike rs (rs ++ made n p ∷ []) _ (ended_more rs n p)

map_agrees : (f g : ProcessRecord → ℕ) → ((r : ProcessRecord) → f r ≡ g r) → (rs : List ProcessRecord) → map f rs ≡ map g rs
map_agrees f g h [] = refl
map_agrees f g h (r ∷ rs) = λ i. h r i ∷ map_agrees f g h rs i

pub index_more : (rs : List ProcessRecord) (n : ℕ) (p : NewProcess) (x y : Index) → IsIndexOf rs x
    → y.passed.items ≡ x.passed.items ++ 0 ∷ [] → y.at_once.items ≡ x.at_once.items ++ n ∷ [] → y.later ≡ x.later → y.live ≡ x.live + 1
    → IsIndexOf (rs ++ made n p ∷ []) y
index_more rs n p x y index passed at_once later live = record {
  passed = passed ∙ ap (λ xs. xs ++ 0 ∷ []) (index.passed ∙ map_agrees (passed_by rs) (passed_by (rs ++ made n p ∷ [])) (λ r. sym (passed_more rs n p r)) rs)
      ∙ sym (map-append (passed_by (rs ++ made n p ∷ [])) rs (made n p ∷ []));
  at_once = at_once ∙ ap (λ xs. xs ++ n ∷ []) (index.at_once ∙ chosen_same (is_ready rs 0) (is_ready (rs ++ made n p ∷ []) 0) rs
      (λ k d lt. sym (ready_alike rs (rs ++ made n p ∷ []) (get_or rs k d) (passed_more rs n p (get_or rs k d)))))
      ∙ sym (ap (map (λ (r : ProcessRecord). r.node)) (filter-append (is_ready (rs ++ made n p ∷ []) 0) rs (made n p ∷ []))
      ∙ map-append (λ (r : ProcessRecord). r.node) (filter (is_ready (rs ++ made n p ∷ []) 0) rs) (made n p ∷ []));
  later = record {
    order = subst (λ (d : List (ℕ × ℕ)). IsSorted sooner d) (sym (λ i. (later i).items)) index.later.order;
    exact = λ due k. ap (λ (d : List (ℕ × ℕ)). is_due_in d due k) (λ i. (later i).items) ∙ index.later.exact due k ∙ sym (found_more (waits_until due) k rs (made n p) refl refl);
    count = ap length (λ i. (later i).items) ∙ index.later.count ∙ sym (none_more waits_later refl);
  };
  live = live ∙ ap (λ m. m + 1) index.live ∙ sym (counted (λ (r : ProcessRecord). not (has_ended r.state)) 1 refl);
}
  where
    none_more : (test : ProcessRecord → Bool) → ◌≡◌ {A = ℕ} (cond (test (made n p)) 1 0) 0 → count_by test (rs ++ made n p ∷ []) ≡ count_by test rs
    none_more test e = omega (arith, sum_by-append (λ (r : ProcessRecord). cond (test r) 1 0) rs (made n p ∷ []), e)

    counted : (test : ProcessRecord → Bool) (m : ℕ) → ◌≡◌ {A = ℕ} (cond (test (made n p)) 1 0) m → count_by test (rs ++ made n p ∷ []) ≡ count_by test rs + m
    counted test m e = omega (arith, sum_by-append (λ (r : ProcessRecord). cond (test r) 1 0) rs (made n p ∷ []), e)

-- what is equal says the same
pub index_equal : (rs : List ProcessRecord) (x y : Index) → IsIndexOf rs x → y.passed.items ≡ x.passed.items → y.at_once.items ≡ x.at_once.items
    → y.later.items ≡ x.later.items → y.live ≡ x.live → IsIndexOf rs y
index_equal rs x y index passed at_once later live = record {
  passed = passed ∙ index.passed;
  at_once = at_once ∙ index.at_once;
  later = subst (λ (d : List (ℕ × ℕ)). AreDues rs d) (sym later) index.later;
  live = live ∙ index.live;
}
