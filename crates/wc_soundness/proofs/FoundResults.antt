-- A job has at most one recorded result, which a function finds; so each process has an agreeing table.
use Rattle.std.proofs.Common.{◌≡◌, ◌≢◌, ℕ, zero, suc, ◌<◌, ◌≤◌, ℤ, Bool, true, false, Option, Some, None, refl, sym, ap, subst, ◌∙◌, arith}
use Rattle.std.specs.Prelude.{if◌then◌else◌, option_and_then}
use Rattle.wc_value.specs.declared.process.JobResult.{JobResult}
use Rattle.wc_value.specs.declared.process.ProcessState.{ProcessState}
use Rattle.wc_value.specs.declared.process.ProcessState.TheVariants as state
use Rattle.wc_semantics.specs.Meaning.{is_killed}
use Rattle.wc_state.specs.declared.record.ProcessKind.{ProcessKind}
use Rattle.wc_state.specs.declared.record.ProcessKind.TheVariants as kind
use Rattle.wc_state.specs.declared.record.ProcessRecord.{ProcessRecord}
use Rattle.wc_world.specs.World.{World}
use Rattle.wc_world.specs.Records.{find_record}
use Rattle.wc_world.proofs.ReachedLists.{found_node}
use Rattle.wc_machine.specs.Recorded.{Contents, result_with, retrieved_folder, HasResult}
use Rattle.wc_machine.specs.Recorded as recorded
use Rattle.wc_machine.specs.Results.{Origin, nowhere, own, source, with_folder, from_source, by_code, by_kind, by_record, origin, by_origin, result_within, result_of}
use Rattle.wc_soundness.specs.ResultLaws.{ResultsAreFound, OneResult, KilledHaveNoResult, ItsTableAgrees}
use Rattle.wc_soundness.proofs.WellKept.{IsWellKept, well_kept}

-- a process that is found is found by its own number
pub found_itself : (pid : ℕ) (w : World) (q : ProcessRecord) → find_record pid w.records ≡ Some q → find_record q.node w.records ≡ Some q
found_itself pid w q h = ap (λ (n : ℕ). find_record n w.records) (found_node pid w.records q h) ∙ h

-- ---- what an origin means

abbrev Means : World → ℕ → Origin → Type 0
Means w pid nowhere = Unit {0}
Means w pid (own x) = HasResult w pid x
Means w pid (source s) = (x : JobResult) → HasResult w s x → HasResult w pid x

module _ (w : World) (r : ProcessRecord) (found : find_record r.node w.records ≡ Some r) (is_job : r.kind ≡ kind.Job) where
  means_folder : (code : ℤ) → r.code ≡ Some code → (o : Option Contents) → retrieved_folder w r.node ≡ o → Means w r.node (with_folder code o)
  means_folder code c None h = tt
  means_folder code c (Some files) h = recorded.own r code files found is_job c h

  means_source : r.state ≢ state.Killed → (o : Option ℕ) → r.cached_from ≡ o → Means w r.node (from_source o)
  means_source alive None h = tt
  means_source alive (Some s) h = λ x has. recorded.cached r s x found is_job alive h has

  means_alive : (b : Bool) → is_killed r.state ≡ b → Means w r.node (if b then nowhere else from_source r.cached_from)
  means_alive true h = tt
  means_alive false h = means_source (λ k. let e : is_killed r.state ≡ true = ap is_killed k in absurd (cc (e, h))) r.cached_from refl

  means_code : (o : Option ℤ) → r.code ≡ o → Means w r.node (by_code w r o)
  means_code None h = means_alive (is_killed r.state) refl
  means_code (Some code) h = means_folder code h (retrieved_folder w r.node) refl

means_kind : (w : World) (r : ProcessRecord) → find_record r.node w.records ≡ Some r → (k : ProcessKind) → r.kind ≡ k → Means w r.node (by_kind w r k)
means_kind w r found kind.Function h = tt
means_kind w r found kind.Job h = means_code w r found h r.code refl
means_kind w r found kind.Chain h = tt

origin_means : (w : World) (pid : ℕ) → Means w pid (origin w pid)
origin_means w pid = at (find_record pid w.records) refl
  where
    at : (o : Option ProcessRecord) → find_record pid w.records ≡ o → Means w pid (by_record w o)
    at None h = tt
    at (Some r) h = subst (λ (n : ℕ). Means w n (by_kind w r r.kind)) (found_node pid w.records r h) (means_kind w r (found_itself pid w r h) r.kind refl)

-- what is found is recorded, with any number of steps
found_is : (n : ℕ) (w : World) (pid : ℕ) (x : JobResult) → result_within n w pid ≡ Some x → HasResult w pid x
found_is zero w pid x h = absurd (cc)
found_is (suc n) w pid x h = each (λ s. found_is n w s x) (origin w pid) (origin_means w pid) h
  where
    each : ((s : ℕ) → result_within n w s ≡ Some x → HasResult w s x) → (o : Origin) → Means w pid o → by_origin (result_within n w) o ≡ Some x → HasResult w pid x
    each f nowhere m e = absurd (cc)
    each f (own y) m e = let p : y ≡ x = cc in subst (HasResult w pid) p m
    each f (source s) m e = m x (f s e)

-- ---- what is recorded has an origin

lives : (s : ProcessState) → s ≢ state.Killed → is_killed s ≡ false
lives state.Created h = refl
lives state.Running h = refl
lives state.Waiting h = refl
lives (state.Finished n) h = refl
lives (state.Excepted r) h = refl
lives state.Killed h = absurd (h refl)

origin_own : (w : World) (r : ProcessRecord) (code : ℤ) (files : Contents) → find_record r.node w.records ≡ Some r → r.kind ≡ kind.Job → r.code ≡ Some code
    → retrieved_folder w r.node ≡ Some files → origin w r.node ≡ own (result_with code files)
origin_own w r code files found is_job c f = ap (by_record w) found ∙ ap (by_kind w r) is_job ∙ ap (by_code w r) c ∙ ap (with_folder code) f

origin_source : (w : World) (r : ProcessRecord) (s : ℕ) → find_record r.node w.records ≡ Some r → r.kind ≡ kind.Job → r.state ≢ state.Killed
    → r.cached_from ≡ Some s → r.code ≡ None → origin w r.node ≡ source s
origin_source w r s found is_job live c none =
    ap (by_record w) found ∙ ap (by_kind w r) is_job ∙ ap (by_code w r) none
    ∙ ap (λ (b : Bool). if b then nowhere else from_source r.cached_from) (lives r.state live) ∙ ap from_source c

origin_killed : (w : World) (r : ProcessRecord) → find_record r.node w.records ≡ Some r → r.state ≡ state.Killed → (r.kind ≡ kind.Job → r.code ≡ None)
    → origin w r.node ≡ nowhere
origin_killed w r found dead none = ap (by_record w) found ∙ at r.kind refl
  where
    at : (k : ProcessKind) → r.kind ≡ k → by_kind w r k ≡ nowhere
    at kind.Function h = refl
    at kind.Job h = ap (by_code w r) (none h) ∙ ap (λ (s : ProcessState). if is_killed s then nowhere else from_source r.cached_from) dead
    at kind.Chain h = refl

same_record : (a b : ProcessRecord) → Some a ≡ Some b → a ≡ b
same_record a b h = cc

module _ (w : World) (k : IsWellKept w) where
  -- a source started before the process that took it
  earlier : (r : ProcessRecord) (s n : ℕ) → find_record r.node w.records ≡ Some r → r.cached_from ≡ Some s → r.started < suc n
      → (q : ProcessRecord) → find_record s w.records ≡ Some q → q.started < n
  earlier r s n found c lt q h =
      let e = k.sources r found s c in
      let same : e.0 ≡ q = same_record e.0 q (sym e.1 ∙ h) in
      let low : q.ended < r.started = subst (λ (x : ProcessRecord). x.ended < r.started) same e.3 in
      let some : 0 < q.ended = subst (λ (x : ProcessRecord). 0 < x.ended) same e.2 in
      let ends : q.started ≤ q.ended = k.ends q (found_itself s w q h) some in
      omega arith

  -- so many steps are enough where the process started in a batch of a lower number
  is_found : (pid : ℕ) (x : JobResult) → HasResult w pid x → (n : ℕ) → ((r : ProcessRecord) → find_record pid w.records ≡ Some r → r.started < n)
      → result_within n w pid ≡ Some x
  is_found pid x (recorded.own r code files found is_job c f) zero h = let no : r.started < 0 = h r found in absurd (omega arith)
  is_found pid x (recorded.own r code files found is_job c f) (suc n) h = ap (by_origin (result_within n w)) (origin_own w r code files found is_job c f)
  is_found pid x (recorded.cached r s y found is_job live c has) zero h = let no : r.started < 0 = h r found in absurd (omega arith)
  is_found pid x (recorded.cached r s y found is_job live c has) (suc n) h =
      ap (by_origin (result_within n w)) (origin_source w r s found is_job live c ((k.one r found).one is_job s c))
      ∙ is_found s y has n (earlier r s n found c (h r found))

  pub result_is_found : (pid : ℕ) (x : JobResult) → HasResult w pid x → result_of w pid ≡ Some x
  unfolding result_of
  result_is_found pid x has =
      is_found pid x has (suc w.batches) (λ r found. let low : r.started ≤ w.batches = k.starts r (found_itself pid w r found) in omega arith)

pub found_is_result : (w : World) (pid : ℕ) (x : JobResult) → result_of w pid ≡ Some x → HasResult w pid x
unfolding result_of
found_is_result w pid x = found_is (suc w.batches) w pid x

none_of_killed : (w : World) (r : ProcessRecord) → origin w r.node ≡ nowhere → result_of w r.node ≡ None
unfolding result_of
none_of_killed w r h = ap (by_origin (result_within w.batches w)) h

-- ---- laws

pub results_are_found : ResultsAreFound
results_are_found w s pid x = (result_is_found w (well_kept w s) pid x, found_is_result w pid x)

pub one_result : OneResult
one_result w s pid x y h g =
    let p : result_of w pid ≡ Some x = result_is_found w (well_kept w s) pid x h in
    let q : result_of w pid ≡ Some y = result_is_found w (well_kept w s) pid y g in
    cc

pub killed_have_none : KilledHaveNoResult
killed_have_none w s r x found dead has =
    let k : IsWellKept w = well_kept w s in
    let none : result_of w r.node ≡ None = none_of_killed w r (origin_killed w r found dead (λ is_job. (k.one r found).none is_job dead)) in
    let some : result_of w r.node ≡ Some x = result_is_found w k r.node x has in
    absurd (cc (none, some))

pub its_table_agrees : ItsTableAgrees
its_table_agrees w s pid path r q x leads found asked has =
    ap (option_and_then (result_of w)) leads ∙ result_is_found w (well_kept w s) r.node x has
