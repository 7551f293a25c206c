-- What a deed tells of the counts of the disks, by what a call on a store says of them.
use Rattle.std.proofs.Common.{◌≡◌, ◌↔◌, ℕ, Bool, true, false, Result, Ok, Err, IsErrAnd, IsErrOf, refl, sym, subst}
use Rattle.wc_store.specs.Refusals.{is_live_after}
use Rattle.wc_store.specs.Stepped.{CountsFaults}
use Rattle.wc_store.specs.declared.error.StoreError.{StoreError}
use Rattle.wc_store.specs.declared.error.StoreError.TheVariants as error
use Rattle.wc_plan.specs.declared.reply.Reply.{Reply}
use Rattle.wc_act.specs.Counts.{CountsDisks}
use Rattle.wc_act.specs.Undone.{IsUnbroken}
use Rattle.wc_act.specs.declared.error.ActError.{ActError}
use Rattle.wc_act.specs.declared.error.ActError.TheVariants.{OutOfMemory, DiskFault}

whole_no_fault : true ≡ false → ⊥
whole_no_fault is = cc

ok_no_fault : (r : Reply) → IsErrOf {T = Reply} {E = ActError} (Ok r) DiskFault → ⊥
ok_no_fault r is = cc

memory_no_fault : IsErrOf {T = Reply} {E = ActError} (Err OutOfMemory) DiskFault → ⊥
memory_no_fault is = cc

fault_unbroken : (result : Result Reply ActError) → IsErrOf result DiskFault → IsUnbroken result → ⊥
fault_unbroken (Ok r) is unbroken = absurd (ok_no_fault r is)
fault_unbroken (Err OutOfMemory) is unbroken = absurd (memory_no_fault is)
fault_unbroken (Err DiskFault) is unbroken = unbroken

-- no disk failed in a call that is broken off so
pub unbroken_whole : (T : Type 0) (e : StoreError) (result : Result Reply ActError) → IsErrOf result DiskFault ↔ (e ≡ error.DiskFault) → IsUnbroken result
    → is_live_after {T = T} (Err e) true ≡ true
unbroken_whole T error.DiskFault result iff unbroken = absurd (fault_unbroken result (iff.1 refl) unbroken)
unbroken_whole T (error.Damaged disk at found) result iff unbroken = refl
unbroken_whole T (error.Full what count limit) result iff unbroken = refl
unbroken_whole T error.AlreadyThere result iff unbroken = refl
unbroken_whole T error.OutOfMemory result iff unbroken = refl

-- a store is no longer live where a disk failed, and for no other refusal
fault_ends : (T : Type 0) (e : StoreError) → e ≡ error.DiskFault → is_live_after {T = T} (Err e) true ≡ false
fault_ends T error.DiskFault is = refl
fault_ends T (error.Damaged disk at found) is = absurd (cc)
fault_ends T (error.Full what count limit) is = absurd (cc)
fault_ends T error.AlreadyThere is = absurd (cc)
fault_ends T error.OutOfMemory is = absurd (cc)

ends_by_fault : (T : Type 0) (e : StoreError) → is_live_after {T = T} (Err e) true ≡ false → e ≡ error.DiskFault
ends_by_fault T error.DiskFault is = refl
ends_by_fault T (error.Damaged disk at found) is = absurd (whole_no_fault is)
ends_by_fault T (error.Full what count limit) is = absurd (whole_no_fault is)
ends_by_fault T error.AlreadyThere is = absurd (whole_no_fault is)
ends_by_fault T error.OutOfMemory is = absurd (whole_no_fault is)

module _ (one one_new two two_new : ℕ) (failed_one failed_two : Type 0) where
  counts_as : (result : Result Reply ActError) (whole : Bool) → (whole ≡ false → IsErrOf result DiskFault) → (IsErrOf result DiskFault → whole ≡ false)
      → CountsFaults whole one one_new two two_new failed_one failed_two → CountsDisks result one one_new two two_new failed_one failed_two
  counts_as (Ok r) true told fault h = h
  counts_as (Ok r) false told fault h = absurd (ok_no_fault r (told refl))
  counts_as (Err OutOfMemory) true told fault h = h
  counts_as (Err OutOfMemory) false told fault h = absurd (memory_no_fault (told refl))
  counts_as (Err DiskFault) true told fault h = absurd (whole_no_fault (fault refl))
  counts_as (Err DiskFault) false told fault h = h

  pub counts_refused : (T : Type 0) (e : StoreError) (result : Result Reply ActError) → IsErrOf result DiskFault ↔ (e ≡ error.DiskFault)
      → CountsFaults (is_live_after {T = T} (Err e) true) one one_new two two_new failed_one failed_two → CountsDisks result one one_new two two_new failed_one failed_two
  counts_refused T e result iff h =
      counts_as result (is_live_after {T = T} (Err e) true) (λ is. iff.1 (ends_by_fault T e is)) (λ is. fault_ends T e (iff.0 is)) h

  -- memory ran out behind a call in which no disk failed
  pub counts_lost : (result : Result Reply ActError) → IsErrAnd result (λ e. e ≡ OutOfMemory) → (one_new ≡ one) × (two_new ≡ two)
      → CountsDisks result one one_new two two_new failed_one failed_two
  counts_lost (Ok r) is h = h
  counts_lost (Err e) is h = subst (λ (x : ActError). CountsDisks {T = Reply} (Err x) one one_new two two_new failed_one failed_two) (sym is) h
