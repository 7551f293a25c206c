-- A result that is found along sources is recorded.
use Rattle.std.proofs.Common.{◌≡◌, ◌≢◌, ℕ, zero, suc, ℤ, Bool, true, false, Option, Some, None, refl, ap, subst, ◌∙◌}
use Rattle.std.specs.Prelude.{if◌then◌else◌}
use Rattle.wc_value.specs.declared.process.JobResult.{JobResult}
use Rattle.wc_value.specs.declared.process.ProcessState.TheVariants as state
use Rattle.wc_semantics.specs.Meaning.{is_killed}
use Rattle.wc_state.specs.declared.record.ProcessKind.{ProcessKind}
use Rattle.wc_state.specs.declared.record.ProcessKind.TheVariants as kind
use Rattle.wc_state.specs.declared.record.ProcessRecord.{ProcessRecord}
use Rattle.wc_world.specs.World.{World}
use Rattle.wc_world.specs.Records.{find_record}
use Rattle.wc_machine.specs.Recorded.{Contents, retrieved_folder, HasResult}
use Rattle.wc_machine.specs.Recorded as recorded
use Rattle.wc_machine.specs.Results.{Origin, nowhere, own, source, with_folder, from_source, by_code, by_kind, by_record, origin, by_origin, result_within, result_of}
use Rattle.wc_subworlds.proofs.Parts.{its_number}

-- a process that is found is found by its own number
pub found_itself : (pid : ℕ) (w : World) (q : ProcessRecord) → find_record pid w.records ≡ Some q → find_record q.node w.records ≡ Some q
found_itself pid w q h = ap (λ (n : ℕ). find_record n w.records) (its_number pid w.records q h) ∙ h

-- ---- what an origin means

abbrev Means : World → ℕ → Origin → Type 0
Means w pid nowhere = Unit {0}
Means w pid (own x) = HasResult w pid x
Means w pid (source s) = (x : JobResult) → HasResult w s x → HasResult w pid x

module _ (w : World) (r : ProcessRecord) (found : find_record r.node w.records ≡ Some r) (is_job : r.kind ≡ kind.Job) where
  means_folder : (code : ℤ) → r.code ≡ Some code → (o : Option Contents) → retrieved_folder w r.node ≡ o → Means w r.node (with_folder code o)
  means_folder code c None h = tt
  means_folder code c (Some files) h = recorded.own r code files found is_job c h

  means_source : r.state ≢ state.Killed → (o : Option ℕ) → r.cached_from ≡ o → Means w r.node (from_source o)
  means_source alive None h = tt
  means_source alive (Some s) h = λ x has. recorded.cached r s x found is_job alive h has

  means_alive : (b : Bool) → is_killed r.state ≡ b → Means w r.node (if b then nowhere else from_source r.cached_from)
  means_alive true h = tt
  means_alive false h = means_source (λ k. let e : is_killed r.state ≡ true = ap is_killed k in absurd (cc (e, h))) r.cached_from refl

  means_code : (o : Option ℤ) → r.code ≡ o → Means w r.node (by_code w r o)
  means_code None h = means_alive (is_killed r.state) refl
  means_code (Some code) h = means_folder code h (retrieved_folder w r.node) refl

means_kind : (w : World) (r : ProcessRecord) → find_record r.node w.records ≡ Some r → (k : ProcessKind) → r.kind ≡ k → Means w r.node (by_kind w r k)
means_kind w r found kind.Function h = tt
means_kind w r found kind.Job h = means_code w r found h r.code refl
means_kind w r found kind.Chain h = tt

origin_means : (w : World) (pid : ℕ) → Means w pid (origin w pid)
origin_means w pid = at (find_record pid w.records) refl
  where
    at : (o : Option ProcessRecord) → find_record pid w.records ≡ o → Means w pid (by_record w o)
    at None h = tt
    at (Some r) h = subst (λ (n : ℕ). Means w n (by_kind w r r.kind)) (its_number pid w.records r h) (means_kind w r (found_itself pid w r h) r.kind refl)

-- what is found is recorded, with any number of steps
found_is : (n : ℕ) (w : World) (pid : ℕ) (x : JobResult) → result_within n w pid ≡ Some x → HasResult w pid x
found_is zero w pid x h = absurd (cc)
found_is (suc n) w pid x h = each (λ s. found_is n w s x) (origin w pid) (origin_means w pid) h
  where
    each : ((s : ℕ) → result_within n w s ≡ Some x → HasResult w s x) → (o : Origin) → Means w pid o → by_origin (result_within n w) o ≡ Some x → HasResult w pid x
    each f nowhere m e = absurd (cc)
    each f (own y) m e = let p : y ≡ x = cc in subst (HasResult w pid) p m
    each f (source s) m e = m x (f s e)

pub result_is_recorded : (w : World) (pid : ℕ) (x : JobResult) → result_of w pid ≡ Some x → HasResult w pid x
unfolding result_of
result_is_recorded w pid x h = found_is (suc w.batches) w pid x h
