-- A recorded result is that of the last of the givers of recorded results.
use Rattle.std.proofs.Common.{◌≡◌, ℕ, ℤ, zero, suc, ◌<◌, ◌≤◌, Bool, true, false, Option, Some, None, List, slice_index, refl, sym, ap, ◌∙◌, arith}
use Rattle.std.specs.Prelude.{◌||◌, if◌then◌else◌}
use Rattle.wc_value.specs.declared.process.JobResult.{JobResult}
use Rattle.wc_semantics.specs.Meaning.{is_killed}
use Rattle.wc_state.specs.declared.record.ProcessKind.{ProcessKind}
use Rattle.wc_state.specs.declared.record.ProcessKind.TheVariants as kind
use Rattle.wc_state.specs.declared.record.ProcessRecord.{ProcessRecord}
use Rattle.wc_world.specs.World.{World}
use Rattle.wc_world.specs.Consistent.{IsConsistent}
use Rattle.wc_world.specs.Records.{find_record}
use Rattle.wc_world.proofs.ReachedLists.{found_node}
use Rattle.wc_machine.specs.Recorded.{Contents, retrieved_folder}
use Rattle.wc_machine.specs.Results.{Origin, nowhere, own, source, by_code, by_kind, by_origin, by_record, from_source, origin, result_of, result_within, with_folder}
use Rattle.wc_verify.specs.Givers.{AreLastGivers, code_kept, giver_at, if_job, keeps_code, number_at, number_or, own_result, own_result_by, recorded_giver}
use Rattle.wc_verify.proofs.Given.{found_itself, no_own_source, source_before, stands}
use Rattle.wc_verify.proofs.Lasts.{along_lasts, last_own, may_give_recorded}

-- ---- from where a result comes

abbrev HasSource : World → ℕ → ℕ → Type 0
HasSource w n s = (r : ProcessRecord) × (find_record n w.records ≡ Some r) × (r.cached_from ≡ Some s)

module _ (w : World) (n s : ℕ) where
  from_is : (o : Option ℕ) → from_source o ≡ source s → o ≡ Some s
  from_is None e = absurd (cc)
  from_is (Some t) e = let same : t ≡ s = cc in ap (λ (m : ℕ). Some m) same

  folder_is : (code : ℤ) (files : Option Contents) → with_folder code files ≡ source s → ⊥
  folder_is code None e = absurd (cc)
  folder_is code (Some files) e = absurd (cc)

  module _ (r : ProcessRecord) where
    alive_is : (b : Bool) → (if b then nowhere else from_source r.cached_from) ≡ source s → r.cached_from ≡ Some s
    alive_is true e = absurd (cc)
    alive_is false e = from_is r.cached_from e

    code_is : (code : Option ℤ) → by_code w r code ≡ source s → r.cached_from ≡ Some s
    code_is None e = alive_is (is_killed r.state) e
    code_is (Some code) e = absurd (folder_is code (retrieved_folder w r.node) e)

    kind_is : (k : ProcessKind) → by_kind w r k ≡ source s → r.cached_from ≡ Some s
    kind_is kind.Function e = absurd (cc)
    kind_is kind.Job e = code_is r.code e
    kind_is kind.Chain e = absurd (cc)

  origin_is : origin w n ≡ source s → HasSource w n s
  origin_is e = by (find_record n w.records) refl e
    where
      by : (o : Option ProcessRecord) → find_record n w.records ≡ o → by_record w o ≡ source s → HasSource w n s
      by None f e = absurd (cc)
      by (Some r) f e = (r, f, kind_is r r.kind e)

-- ---- enough steps

abbrev start : Option ProcessRecord → ℕ
start None = 0
start (Some r) = r.started

module _ (w : World) (c : IsConsistent w) where
  earlier : (n s : ℕ) → origin w n ≡ source s → start (find_record s w.records) < start (find_record n w.records)
  earlier n s e =
      let h = origin_is w n s e in
      let q = source_before w c n h.0 s h.1 h.2 in
      let less : q.0.started < h.0.started = q.2 in
      let a : start (find_record s w.records) ≡ q.0.started = ap start q.1 in
      let b : start (find_record n w.records) ≡ h.0.started = ap start h.1 in
      omega (arith, less, a, b)

  -- one step more finds no other result
  enough : (m n : ℕ) → start (find_record n w.records) < m → result_within m w n ≡ result_within (suc m) w n
  enough zero n lt = absurd (omega (arith, lt))
  enough (suc k) n lt = at (λ s less. enough k s less) (origin w n) refl
    where
      at : ((s : ℕ) → start (find_record s w.records) < k → result_within k w s ≡ result_within (suc k) w s) → (o : Origin) → origin w n ≡ o
          → by_origin (result_within k w) o ≡ by_origin (result_within (suc k) w) o
      at f nowhere e = refl
      at f (own x) e = refl
      at f (source s) e = let less = earlier n s e in f s (omega (arith, less, lt))

  in_time : (n : ℕ) (o : Option ProcessRecord) → find_record n w.records ≡ o → start o ≤ w.batches
  in_time n None f = omega arith
  in_time n (Some r) f = (stands w c n r f).started

  -- the result of a process whose result comes from another
  along_source : (n s : ℕ) → origin w n ≡ source s → result_of w n ≡ result_of w s
  unfolding result_of
  along_source n s e =
      let less = earlier n s e in
      let most = in_time n (find_record n w.records) refl in
      ap (by_origin (result_within w.batches w)) e ∙ enough w.batches s (omega (arith, less, most))

  -- ---- one step

  module _ (n : ℕ) (r : ProcessRecord) (found : find_record n w.records ≡ Some r) where
    number : r.node ≡ n
    number = found_node n w.records r found

    to_itself : result_of w n ≡ result_of w r.node
    to_itself = ap (result_of w) (sym number)

    bare : (k : ProcessKind) (code : Option ℤ) → k ≡ kind.Job → code_kept k code ≡ false → code ≡ None
    bare kind.Function code e h = absurd (cc)
    bare kind.Job None e h = refl
    bare kind.Job (Some code) e h = absurd (cc)
    bare kind.Chain code e h = absurd (cc)

    comes_from : (s : ℕ) → r.kind ≡ kind.Job → is_killed r.state ≡ false → keeps_code r ≡ false → r.cached_from ≡ Some s → origin w n ≡ source s
    comes_from s is_job alive keeps from =
        ap (by_record w) found ∙ ap (by_kind w r) is_job ∙ ap (by_code w r) (bare r.kind r.code is_job keeps)
        ∙ (λ i. if alive i then nowhere else from_source (from i))

    by_source : (k : ProcessKind) (o : Option ℕ) → r.kind ≡ k → r.cached_from ≡ o → is_killed r.state ≡ false → keeps_code r ≡ false
        → result_of w n ≡ result_of w (number_or r.node (if_job k o))
    by_source kind.Function o is from alive keeps = to_itself
    by_source kind.Chain o is from alive keeps = to_itself
    by_source kind.Job None is from alive keeps = to_itself
    by_source kind.Job (Some s) is from alive keeps = along_source n s (comes_from s is alive keeps from)

    neither : (a b : Bool) → a || b ≡ false → (a ≡ false) × (b ≡ false)
    neither true b h = absurd (cc)
    neither false b h = (refl, h)

    found_step : result_of w n ≡ result_of w (recorded_giver r)
    found_step = at (is_killed r.state || keeps_code r) refl
      where
        at : (b : Bool) → is_killed r.state || keeps_code r ≡ b → result_of w n ≡ result_of w (if b then r.node else number_or r.node (if_job r.kind r.cached_from))
        at true h = to_itself
        at false h = let both = neither (is_killed r.state) (keeps_code r) h in by_source r.kind r.cached_from refl refl both.0 both.1

  step : (n : ℕ) → result_of w n ≡ result_of w (giver_at recorded_giver w n)
  step n = at (find_record n w.records) refl
    where
      at : (o : Option ProcessRecord) → find_record n w.records ≡ o → result_of w n ≡ result_of w (number_at recorded_giver n o)
      at None h = refl
      at (Some r) h = found_step n r h

  -- ---- the last giver

  module _ (q : ProcessRecord) (found : find_record q.node w.records ≡ Some q) (last : recorded_giver q ≡ q.node) where
    no_source : (s : ℕ) → q.kind ≡ kind.Job → is_killed q.state ≡ false → q.code ≡ None → q.cached_from ≡ Some s → ⊥
    no_source s is_job alive none from =
        let keeps : keeps_code q ≡ false = (λ i. code_kept (is_job i) (none i)) in
        let taken : recorded_giver q ≡ s = (λ i. if alive i || keeps i then q.node else number_or q.node (if_job (is_job i) (from i))) in
        no_own_source w c q found (from ∙ ap (λ (m : ℕ). Some m) (sym taken ∙ last))

    module _ (f : ℕ → Option JobResult) where
      with_code : (code : ℤ) (files : Option Contents) → by_origin f (with_folder code files) ≡ own_result_by kind.Job (Some code) files
      with_code code None = refl
      with_code code (Some files) = refl

      without : (b : Bool) (o : Option ℕ) → q.kind ≡ kind.Job → q.code ≡ None → is_killed q.state ≡ b → q.cached_from ≡ o → by_origin f (if b then nowhere else from_source o) ≡ None
      without true o is none dead from = refl
      without false None is none alive from = refl
      without false (Some s) is none alive from = absurd (no_source s is alive none from)

      coded : (code : Option ℤ) → q.kind ≡ kind.Job → q.code ≡ code → by_origin f (by_code w q code) ≡ own_result_by kind.Job code (retrieved_folder w q.node)
      coded None is has = without (is_killed q.state) q.cached_from is has refl refl
      coded (Some code) is has = with_code code (retrieved_folder w q.node)

      kinds : (k : ProcessKind) → q.kind ≡ k → by_origin f (by_kind w q k) ≡ own_result_by k q.code (retrieved_folder w q.node)
      kinds kind.Function is = refl
      kinds kind.Job is = coded q.code is refl
      kinds kind.Chain is = refl

    itself : result_of w q.node ≡ own_result w q
    unfolding result_of
    itself = ap (λ (o : Option ProcessRecord). by_origin (result_within w.batches w) (by_record w o)) found ∙ kinds (result_within w.batches w) q.kind refl

  none_there : (n : ℕ) → find_record n w.records ≡ None → result_of w n ≡ None
  unfolding result_of
  none_there n none = ap (λ (o : Option ProcessRecord). by_origin (result_within w.batches w) (by_record w o)) none

  module _ (lasts : List ℕ) (are : AreLastGivers recorded_giver w lasts) (r : ProcessRecord) (found : find_record r.node w.records ≡ Some r) where
    along : result_of w r.node ≡ result_of w (slice_index lasts r.node)
    along =
        (along_lasts recorded_giver may_give_recorded w c lasts are r.node r found (λ n. result_of w r.node ≡ result_of w n)
        (λ n. (λ e. e ∙ step n, λ e. e ∙ sym (step n)))).0 refl

    -- the result of the last giver's own run
    pub recorded_exactly : (q : ProcessRecord) → find_record (slice_index lasts r.node) w.records ≡ Some q → result_of w r.node ≡ own_result w q
    recorded_exactly q there =
        let last = slice_index lasts r.node in
        let number : q.node ≡ last = found_node last w.records q there in
        along ∙ ap (result_of w) (sym number)
        ∙ itself q (found_itself w c last q there) (last_own recorded_giver may_give_recorded w c lasts are r.node r found q there)

    pub none_recorded : find_record (slice_index lasts r.node) w.records ≡ None → result_of w r.node ≡ None
    none_recorded none = along ∙ none_there (slice_index lasts r.node) none
