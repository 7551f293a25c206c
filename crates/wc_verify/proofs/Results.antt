-- A recorded result is that of the last of the givers.
use Rattle.std.proofs.Common.{◌≡◌, ◌≢◌, ◌↔◌, ℕ, ℤ, Bool, true, false, Option, Some, None, List, [], slice_index, codes, refl, sym, ap, subst, ◌∙◌}
use Rattle.std.specs.Prelude.{if◌then◌else◌, option_and_then}
use Rattle.wc_value.specs.Ascending.{lookup}
use Rattle.wc_value.specs.declared.process.JobResult.{JobResult}
use Rattle.wc_value.specs.declared.process.ProcessState.TheVariants as state
use Rattle.wc_semantics.specs.Meaning.{is_killed}
use Rattle.wc_semantics.specs.declared.outcomes.Parsed.{Parsed}
use Rattle.wc_state.specs.declared.record.ProcessKind.{ProcessKind}
use Rattle.wc_state.specs.declared.record.ProcessKind.TheVariants as kind
use Rattle.wc_state.specs.declared.record.ProcessRecord.{ProcessRecord}
use Rattle.wc_world.specs.World.{World}
use Rattle.wc_world.specs.Consistent.{IsConsistent}
use Rattle.wc_world.specs.Records.{find_record, has_ended, is_calculation}
use Rattle.wc_world.specs.Trees.{values_alone}
use Rattle.wc_world.proofs.FoundRecords.{found_holds}
use Rattle.wc_world.proofs.ReachedLists.{found_node}
use Rattle.wc_machine.specs.Created.{KeepsNoCode, GivenFor, killed, cached, function, job, no_request, IsGiven, IsCreatedByInputs}
use Rattle.wc_machine.specs.Recorded.{Contents, HasResult, folder_of, recorded_outputs, result_with, retrieved_folder}
use Rattle.wc_machine.specs.Recorded as recorded
use Rattle.wc_machine.proofs.AcceptedEnds.{live_without_output}
use Rattle.wc_machine.proofs.CreatedOutputs.{without_output}
use Rattle.wc_machine.proofs.Frames.{outputs_untouched}
use Rattle.wc_verify.specs.Faults.{HaveOneOrigin}
use Rattle.wc_verify.specs.Givers.{AreLastGivers, giver_at, if_job, number_at, number_or, own_result, own_result_by, result_giver}
use Rattle.wc_verify.proofs.Given.{alive_is, found_itself, no_own_source, not_killed, one_found, stands}
use Rattle.wc_verify.proofs.Lasts.{along_lasts, last_own, may_give_result}

-- ---- a job that took another's result has none of its own

-- a live process has no folder
no_folder : (w : World) (c : IsConsistent w) (r : ProcessRecord) → find_record r.node w.records ≡ Some r → has_ended r.state ≡ false → retrieved_folder w r.node ≡ None
no_folder w c r found live =
    ap (λ es. option_and_then folder_of (lookup (codes "retrieved") (values_alone es)))
    (outputs_untouched w.nodes r.node w.links [] (without_output r.node w.links (live_without_output w r (stands w c r.node r found) live)))

module _ (w : World) (pid : ℕ) (r : ProcessRecord) (found : find_record pid w.records ≡ Some r) (is_job : r.kind ≡ kind.Job) where
  given_one : (p : Parsed) → GivenFor w pid p → (source : ℕ) → r.cached_from ≡ Some source → r.code ≡ None
  given_one p (killed q f dead bare) s c = subst KeepsNoCode (one_found (find_record q.node w.records) r q found f) bare is_job
  given_one p (cached q source y f live bare from g) s c = subst KeepsNoCode (one_found (find_record q.node w.records) r q found f) bare is_job
  given_one p (function q x f live none d) s c =
      let e : q.cached_from ≡ r.cached_from = ap (λ (x : ProcessRecord). x.cached_from) (one_found (find_record q.node w.records) r q found f) in absurd (cc (e, none, c))
  given_one p (job q j a code files f live none d is folder asked) s c =
      let e : q.cached_from ≡ r.cached_from = ap (λ (x : ProcessRecord). x.cached_from) (one_found (find_record q.node w.records) r q found f) in absurd (cc (e, none, c))
  given_one p (no_request q j reason f live none d bare asked) s c =
      let e : q.cached_from ≡ r.cached_from = ap (λ (x : ProcessRecord). x.cached_from) (one_found (find_record q.node w.records) r q found f) in absurd (cc (e, none, c))

-- where all that is created is created by its inputs, a job that took another's outcome keeps no exit code
pub created_have_one : (w : World) → IsCreatedByInputs w → HaveOneOrigin w
created_have_one w created = record {
  bare = λ r found is_job over source from.
      let g : IsGiven w r = found_holds (λ q. is_calculation q.kind ≡ true → has_ended q.state ≡ true → IsGiven w q) r.node w.records r created.ended found (ap is_calculation is_job) over in
      given_one w r.node r found is_job g.0 g.1 source from;
}

module _ (w : World) (c : IsConsistent w) (origins : HaveOneOrigin w) where
  no_own : (r : ProcessRecord) (source : ℕ) (code : ℤ) (files : Contents) → find_record r.node w.records ≡ Some r → r.kind ≡ kind.Job → r.cached_from ≡ Some source
      → r.code ≡ Some code → retrieved_folder w r.node ≡ Some files → ⊥
  no_own r source code files found is_job from has folder = at (has_ended r.state) refl
    where
      at : (b : Bool) → has_ended r.state ≡ b → ⊥
      at true over = let none : r.code ≡ None = origins.bare r found is_job over source from in absurd (cc (none, has))
      at false live = let none : retrieved_folder w r.node ≡ None = no_folder w c r found live in absurd (cc (none, folder))

  -- ---- one step

  module _ (n : ℕ) (r : ProcessRecord) (found : find_record n w.records ≡ Some r) (x : JobResult) where
    number : r.node ≡ n
    number = found_node n w.records r found

    own : find_record r.node w.records ≡ Some r
    own = found_itself w c n r found

    from_source : (source : ℕ) → r.kind ≡ kind.Job → r.cached_from ≡ Some source → HasResult w n x → HasResult w source x
    from_source source is_job from (recorded.own q code files f k has folder) =
        let same : q ≡ r = one_found (find_record q.node w.records) r q found f in
        absurd (no_own r source code files own is_job from (ap (λ (y : ProcessRecord). y.code) (sym same) ∙ has)
        (ap (λ (y : ProcessRecord). retrieved_folder w y.node) (sym same) ∙ folder))
    from_source source is_job from (recorded.cached q s y f k live took g) =
        let same : q ≡ r = one_found (find_record q.node w.records) r q found f in
        let is : Some s ≡ Some source = sym took ∙ ap (λ (z : ProcessRecord). z.cached_from) same ∙ from in
        let number : s ≡ source = cc in
        subst (λ (k : ℕ). HasResult w k y) number g

    to_source : (source : ℕ) → r.kind ≡ kind.Job → is_killed r.state ≡ false → r.cached_from ≡ Some source → HasResult w source x → HasResult w n x
    to_source source is_job alive from g =
        subst (λ (k : ℕ). HasResult w k x) number (recorded.cached r source x own is_job (not_killed r.state alive) from g)

    same_number : HasResult w n x ↔ HasResult w r.node x
    same_number = (subst (λ (k : ℕ). HasResult w k x) (sym number), subst (λ (k : ℕ). HasResult w k x) number)

    by_source : (k : ProcessKind) (o : Option ℕ) → r.kind ≡ k → is_killed r.state ≡ false → r.cached_from ≡ o → HasResult w n x ↔ HasResult w (number_or r.node (if_job k o)) x
    by_source kind.Function o is alive from = same_number
    by_source kind.Chain o is alive from = same_number
    by_source kind.Job None is alive from = same_number
    by_source kind.Job (Some s) is alive from = (from_source s is from, to_source s is alive from)

    step_found : HasResult w n x ↔ HasResult w (result_giver r) x
    step_found = at (is_killed r.state) refl
      where
        at : (b : Bool) → is_killed r.state ≡ b → HasResult w n x ↔ HasResult w (if b then r.node else number_or r.node (if_job r.kind r.cached_from)) x
        at true dead = same_number
        at false alive = by_source r.kind r.cached_from refl alive refl

  result_step : (x : JobResult) (n : ℕ) → HasResult w n x ↔ HasResult w (giver_at result_giver w n) x
  result_step x n = at (find_record n w.records) refl
    where
      at : (o : Option ProcessRecord) → find_record n w.records ≡ o → HasResult w n x ↔ HasResult w (number_at result_giver n o) x
      at None h = (λ g. g, λ g. g)
      at (Some r) h = step_found n r h x

  -- ---- the last giver

  module _ (pid : ℕ) (r : ProcessRecord) (found : find_record pid w.records ≡ Some r) (last : result_giver r ≡ r.node) (x : JobResult) where
    here : r.node ≡ pid
    here = found_node pid w.records r found

    itself : find_record r.node w.records ≡ Some r
    itself = found_itself w c pid r found

    only_own : HasResult w pid x → own_result w r ≡ Some x
    only_own (recorded.own q code files f k has folder) =
        let same : q ≡ r = one_found (find_record q.node w.records) r q found f in
        let a : r.kind ≡ kind.Job = ap (λ (y : ProcessRecord). y.kind) (sym same) ∙ k in
        let b : r.code ≡ Some code = ap (λ (y : ProcessRecord). y.code) (sym same) ∙ has in
        let d : retrieved_folder w r.node ≡ Some files = ap (λ (y : ProcessRecord). retrieved_folder w y.node) (sym same) ∙ folder in
        (λ i. own_result_by (a i) (b i) (d i))
    only_own (recorded.cached q s y f k live took g) =
        let same : q ≡ r = one_found (find_record q.node w.records) r q found f in
        let a : r.kind ≡ kind.Job = ap (λ (y : ProcessRecord). y.kind) (sym same) ∙ k in
        let from : r.cached_from ≡ Some s = ap (λ (y : ProcessRecord). y.cached_from) (sym same) ∙ took in
        let alive : is_killed r.state ≡ false = alive_is r.state (subst (λ (y : ProcessRecord). y.state ≢ state.Killed) same live) in
        let taken : result_giver r ≡ s = (λ i. if alive i then r.node else number_or r.node (if_job (a i) (from i))) in
        absurd (no_own_source w c r itself (from ∙ ap (λ (k : ℕ). Some k) (sym taken ∙ last)))

    own_by : (k : ProcessKind) (code : Option ℤ) (files : Option Contents) → r.kind ≡ k → r.code ≡ code → retrieved_folder w r.node ≡ files
        → own_result_by k code files ≡ Some x → HasResult w r.node x
    own_by kind.Function code files is has folder e = absurd (cc)
    own_by kind.Chain code files is has folder e = absurd (cc)
    own_by kind.Job None files is has folder e = absurd (cc)
    own_by kind.Job (Some code) None is has folder e = absurd (cc)
    own_by kind.Job (Some code) (Some files) is has folder e =
        let same : result_with code files ≡ x = cc in
        subst (HasResult w r.node) same (recorded.own r code files itself is has folder)

    own_exactly : HasResult w pid x ↔ (own_result w r ≡ Some x)
    own_exactly = (only_own, λ e. subst (λ (k : ℕ). HasResult w k x) here (own_by r.kind r.code (retrieved_folder w r.node) refl refl refl e))

  module _ (lasts : List ℕ) (are : AreLastGivers result_giver w lasts) (r : ProcessRecord) (found : find_record r.node w.records ≡ Some r) where
    result_along : (x : JobResult) → HasResult w r.node x ↔ HasResult w (slice_index lasts r.node) x
    result_along x = along_lasts result_giver may_give_result w c lasts are r.node r found (λ n. HasResult w n x) (λ n. result_step x n)

    -- the result of the last giver's own run
    pub result_exactly : (q : ProcessRecord) → find_record (slice_index lasts r.node) w.records ≡ Some q → (x : JobResult) → HasResult w r.node x ↔ (own_result w q ≡ Some x)
    result_exactly q there x =
        let a = result_along x in
        let b = own_exactly (slice_index lasts r.node) q there (last_own result_giver may_give_result w c lasts are r.node r found q there) x in
        (λ h. b.0 (a.0 h), λ e. a.1 (b.1 e))

    pub no_result : find_record (slice_index lasts r.node) w.records ≡ None → (x : JobResult) → HasResult w r.node x → ⊥
    no_result none x h = there (slice_index lasts r.node) ((result_along x).0 h) none
      where
        there : (n : ℕ) → HasResult w n x → find_record n w.records ≡ None → ⊥
        there n (recorded.own q code files f k has folder) none = absurd (cc (f, none))
        there n (recorded.cached q s y f k live took g) none = absurd (cc (f, none))

    pub one_result : (x y : JobResult) → HasResult w r.node x → HasResult w r.node y → x ≡ y
    one_result x y h g = at (find_record (slice_index lasts r.node) w.records) refl
      where
        at : (o : Option ProcessRecord) → find_record (slice_index lasts r.node) w.records ≡ o → x ≡ y
        at None e = absurd (no_result e x h)
        at (Some q) e =
            let a : own_result w q ≡ Some x = (result_exactly q e x).0 h in
            let b : own_result w q ≡ Some y = (result_exactly q e y).0 g in
            let same : Some x ≡ Some y = sym a ∙ b in cc
