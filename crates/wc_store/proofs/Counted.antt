-- What one step leaves of the whole call.
use Rattle.std.proofs.Common.{◌≡◌, ℕ, inl, inr, Bool, true, Result, Ok, Err, refl, sym, ap, subst}
use Rattle.std.specs.Prelude.{IsTrue}
use Rattle.wc_disk.specs.declared.disk.Disk as disk
use Rattle.wc_store.specs.declared.error.StoreError.{StoreError}
use Rattle.wc_store.specs.declared.error.StoreError.TheVariants.{DiskFault, Damaged, Full, AlreadyThere, OutOfMemory}
use Rattle.wc_store.specs.declared.place.Place.{Place}
use Rattle.wc_store.specs.declared.place.Place.TheVariants.{One, Two}
use Rattle.wc_store.specs.Places.{its}
use Rattle.wc_store.specs.Stores.{other}
use Rattle.wc_store.specs.Refusals.{Counts, CountsOne, IsUnchanged, is_live_after}
use Rattle.wc_store.specs.Stepped.{CountsFaults}

pub unchanged : {T S : Type 0} (result : Result T StoreError) (old new : S) → new ≡ old → IsUnchanged result old new
unchanged (Ok answer) old new same = tt
unchanged (Err DiskFault) old new same = tt
unchanged (Err (Damaged disk at found)) old new same = same
unchanged (Err (Full what count limit)) old new same = same
unchanged (Err AlreadyThere) old new same = same
unchanged (Err OutOfMemory) old new same = same

-- ---- of both disks, where the call is of the one at a place
module _ {T : Type 0} (result : Result T StoreError) {D : Type 0} (one two one_new two_new : D) where
  pub unchanged_own : (place : Place) → IsUnchanged result (its place one two) (its place one_new two_new) → other place one_new two_new ≡ other place one two
      → IsUnchanged result one one_new × IsUnchanged result two two_new
  unchanged_own One own same = (own, unchanged result two two_new same)
  unchanged_own Two own same = (unchanged result one one_new same, own)

-- the same of a refused call of the disk that isn't at the place, whatever else the two calls answer
module _ (T U : Type 0) (e : StoreError) {D : Type 0} (one two one_new two_new : D) where
  as_refused : {S : Type 0} (error : StoreError) (old new : S) → IsUnchanged {T = U} (Err error) old new → IsUnchanged {T = T} (Err error) old new
  as_refused DiskFault old new h = h
  as_refused (Damaged disk at found) old new h = h
  as_refused (Full what count limit) old new h = h
  as_refused AlreadyThere old new h = h
  as_refused OutOfMemory old new h = h

  pub unchanged_other : (place : Place) → IsUnchanged {T = U} (Err e) (other place one two) (other place one_new two_new) → its place one_new two_new ≡ its place one two
      → IsUnchanged {T = T} (Err e) one one_new × IsUnchanged {T = T} (Err e) two two_new
  unchanged_other One still same = (unchanged {T = T} (Err e) one one_new same, as_refused e two two_new still)
  unchanged_other Two still same = (as_refused e one one_new still, unchanged {T = T} (Err e) two two_new same)

-- ---- what is counted of both disks, where the call is of one
module _ {T : Type 0} (one one_new two two_new : ℕ) (failed_one failed_two : Type 0) where
  counts_first : (result : Result T StoreError) → CountsOne result one one_new failed_one → two_new ≡ two → Counts result one one_new two two_new failed_one failed_two
  counts_first (Ok answer) own same = (own, same)
  counts_first (Err DiskFault) own same = inl (own.0, own.1, same)
  counts_first (Err (Damaged disk at found)) own same = (own, same)
  counts_first (Err (Full what count limit)) own same = (own, same)
  counts_first (Err AlreadyThere) own same = (own, same)
  counts_first (Err OutOfMemory) own same = (own, same)

  counts_second : (result : Result T StoreError) → CountsOne result two two_new failed_two → one_new ≡ one → Counts result one one_new two two_new failed_one failed_two
  counts_second (Ok answer) own same = (same, own)
  counts_second (Err DiskFault) own same = inr (same, own.0, own.1)
  counts_second (Err (Damaged disk at found)) own same = (same, own)
  counts_second (Err (Full what count limit)) own same = (same, own)
  counts_second (Err AlreadyThere) own same = (same, own)
  counts_second (Err OutOfMemory) own same = (same, own)

module _ {T D : Type 0} (g : disk.Ghosts D) (result : Result T StoreError) (one two one_new two_new : D) where
  -- the call is of the disk at a place
  pub counts_own : (place : Place) → CountsOne result (g.faults (its place one two)) (g.faults (its place one_new two_new)) (g.failed (its place one_new two_new))
      → other place one_new two_new ≡ other place one two
      → Counts result (g.faults one) (g.faults one_new) (g.faults two) (g.faults two_new) (g.failed one_new) (g.failed two_new)
  counts_own One own same = counts_first (g.faults one) (g.faults one_new) (g.faults two) (g.faults two_new) (g.failed one_new) (g.failed two_new) result own (ap g.faults same)
  counts_own Two own same = counts_second (g.faults one) (g.faults one_new) (g.faults two) (g.faults two_new) (g.failed one_new) (g.failed two_new) result own (ap g.faults same)

  -- the call is of the other disk
  pub counts_other : (place : Place) → CountsOne result (g.faults (other place one two)) (g.faults (other place one_new two_new)) (g.failed (other place one_new two_new))
      → its place one_new two_new ≡ its place one two
      → Counts result (g.faults one) (g.faults one_new) (g.faults two) (g.faults two_new) (g.failed one_new) (g.failed two_new)
  counts_other One own same = counts_second (g.faults one) (g.faults one_new) (g.faults two) (g.faults two_new) (g.failed one_new) (g.failed two_new) result own (ap g.faults same)
  counts_other Two own same = counts_first (g.faults one) (g.faults one_new) (g.faults two) (g.faults two_new) (g.failed one_new) (g.failed two_new) result own (ap g.faults same)

-- what a result says of faults
pub counted_as : {T : Type 0} (result : Result T StoreError) (one one_new two two_new : ℕ) (failed_one failed_two : Type 0)
    → Counts result one one_new two two_new failed_one failed_two → CountsFaults (is_live_after result true) one one_new two two_new failed_one failed_two
counted_as (Ok answer) one one_new two two_new failed_one failed_two h = h
counted_as (Err DiskFault) one one_new two two_new failed_one failed_two h = h
counted_as (Err (Damaged disk at found)) one one_new two two_new failed_one failed_two h = h
counted_as (Err (Full what count limit)) one one_new two two_new failed_one failed_two h = h
counted_as (Err AlreadyThere) one one_new two two_new failed_one failed_two h = h
counted_as (Err OutOfMemory) one one_new two two_new failed_one failed_two h = h

-- where nothing was called, no fault is counted: a refusal before any call of a disk is no fault
pub counted_none : (whole : Bool) (one two : ℕ) (failed_one failed_two : Type 0) → whole ≡ true → CountsFaults whole one one two two failed_one failed_two
counted_none whole one two failed_one failed_two is = subst (λ (b : Bool). CountsFaults b one one two two failed_one failed_two) (sym is) (refl, refl)

-- what a live store left unchanged is the same
pub same_after : (T : Type 0) {S : Type 0} (e : StoreError) (old new : S) → is_live_after {T = T} (Err e) true ≡ true → IsUnchanged {T = T} (Err e) old new → new ≡ old
same_after T DiskFault old new live is = absurd (cc)
same_after T (Damaged disk at found) old new live is = is
same_after T (Full what count limit) old new live is = is
same_after T AlreadyThere old new live is = is
same_after T OutOfMemory old new live is = is

-- ---- whether both disks tell their bytes, where one was called
module _ {D : Type 0} (g : disk.Ghosts D) (one two one_new two_new : D) where
  pub tells_own : (place : Place) → g.tells (its place one_new two_new) ≡ g.tells (its place one two) → other place one_new two_new ≡ other place one two
      → (g.tells one_new ≡ g.tells one) × (g.tells two_new ≡ g.tells two)
  tells_own One own same = (own, ap g.tells same)
  tells_own Two own same = (ap g.tells same, own)

  pub tells_other : (place : Place) → g.tells (other place one_new two_new) ≡ g.tells (other place one two) → its place one_new two_new ≡ its place one two
      → (g.tells one_new ≡ g.tells one) × (g.tells two_new ≡ g.tells two)
  tells_other One own same = (ap g.tells same, own)
  tells_other Two own same = (own, ap g.tells same)

-- ---- disks of which both tell their bytes, or neither
module _ {D : Type 0} (g : disk.Ghosts D) (one two : D) where
  pub own_told : (place : Place) → IsTrue (g.tells one) → IsTrue (g.tells two) → IsTrue (g.tells (its place one two))
  own_told One first second = first
  own_told Two first second = second

  pub other_told : (place : Place) → IsTrue (g.tells one) → IsTrue (g.tells two) → IsTrue (g.tells (other place one two))
  other_told One first second = second
  other_told Two first second = first

  pub both_told : (place : Place) → g.tells one ≡ g.tells two → IsTrue (g.tells (its place one two)) → IsTrue (g.tells one) × IsTrue (g.tells two)
  both_told One alike told = (told, subst (λ (b : Bool). IsTrue b) alike told)
  both_told Two alike told = (subst (λ (b : Bool). IsTrue b) (sym alike) told, told)
