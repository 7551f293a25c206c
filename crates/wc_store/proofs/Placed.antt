-- What a journal refuses, as a store tells it.
use Rattle.std.proofs.Common.{◌≡◌, ℕ, true, List, [], ◌∷◌, length, max, Err, refl, sym, subst}
use Rattle.std.proofs.lemmas.Bool.{false≢true}
use Rattle.std.specs.Prelude.{IsErrOf, IsTrue}
use Rattle.wc_disk.specs.declared.disk.Disk as disk
use Rattle.wc_disk.specs.Images.{LeavesOnly}
use Rattle.wc_journal.specs.declared.error.JournalError.{JournalError}
use Rattle.wc_journal.specs.declared.error.JournalError.TheVariants.{DiskFault, Damaged, Full, OutOfMemory}
use Rattle.wc_journal.specs.declared.journal.Journal.{Journal}
use Rattle.wc_journal.specs.Reading.{holds, journal_of}
use Rattle.wc_journal.specs.Journals.{IsSettled, StaysWithin, with_batch, HoldsEither, IsReplaced}
use Rattle.wc_journal.specs.Refusals.{size_after, RefusesAppend, RefusesReading, CountsDiskFault}
use Rattle.wc_state.specs.declared.record.What.TheVariants as what
use Rattle.wc_store.specs.declared.error.StoreError.{StoreError}
use Rattle.wc_store.specs.declared.error.StoreError.TheVariants as store
use Rattle.wc_store.specs.Writes.{IsToldAs, RefusesLength, Appends, Replaces}
use Rattle.wc_store.specs.Refusals.{RefusesLook, CountsOne, IsUnchanged, is_live_after}

-- a fact of a refusal and of what is told of it, where it is one of each kind that may be
by_kind : (P : JournalError → StoreError → Type 0) → P DiskFault store.DiskFault → ((count limit : ℕ) → P (Full count limit) (store.Full what.Bytes count limit))
    → P OutOfMemory store.OutOfMemory → (e : JournalError) (s : StoreError) → IsToldAs e s → P e s
by_kind P fault full memory DiskFault s told = subst (P DiskFault) (sym told) fault
by_kind P fault full memory (Damaged at found) s told = absurd told
by_kind P fault full memory (Full count limit) s told = subst (P (Full count limit)) (sym told) (full count limit)
by_kind P fault full memory OutOfMemory s told = subst (P OutOfMemory) (sym told) memory

pub cause_as : (T S failed : Type 0) (e : JournalError) (s : StoreError) → IsToldAs e s → (a b : ℕ) → CountsDiskFault {T = T} (Err e) a b failed
    → CountsOne {T = S} (Err s) a b failed
cause_as T S failed =
    by_kind (λ e s. (a b : ℕ) → CountsDiskFault {T = T} (Err e) a b failed → CountsOne {T = S} (Err s) a b failed)
    (λ a b counts. counts) (λ count limit a b counts. counts) (λ a b counts. counts)

-- ---- of an append
module _ (T S : Type 0) (size limit : ℕ) where
  length_as : (e : JournalError) (s : StoreError) → IsToldAs e s → RefusesAppend size limit e → RefusesLength size limit s
  length_as = by_kind (λ e s. RefusesAppend size limit e → RefusesLength size limit s) (λ refused. refused) (λ count most refused. refused) (λ refused. refused)

  append_untouched : {D : Type 0} (old new : D) (e : JournalError) (s : StoreError) → IsToldAs e s → RefusesAppend size limit e
      → ((count most : ℕ) → IsErrOf {T = T} (Err e) (Full count most) → new ≡ old) → IsUnchanged {T = S} (Err s) old new
  append_untouched old new =
      by_kind (λ e s. RefusesAppend size limit e → ((count most : ℕ) → IsErrOf {T = T} (Err e) (Full count most) → new ≡ old) → IsUnchanged {T = S} (Err s) old new)
      (λ refused full. tt) (λ count most refused full. full count most refl) (λ refused full. absurd refused)

  append_still : (P : Type 0) (e : JournalError) (s : StoreError) → IsToldAs e s → RefusesAppend size limit e
      → ((count most : ℕ) → IsErrOf {T = T} (Err e) (Full count most) → P) → is_live_after {T = S} (Err s) true ≡ true → P
  append_still P =
      by_kind (λ e s. RefusesAppend size limit e → ((count most : ℕ) → IsErrOf {T = T} (Err e) (Full count most) → P) → is_live_after {T = S} (Err s) true ≡ true → P)
      (λ refused full live. absurd (false≢true live)) (λ count most refused full live. full count most refl) (λ refused full live. absurd refused)

-- ---- of a replacement
reading_as : (e : JournalError) (s : StoreError) → IsToldAs e s → RefusesReading e → RefusesLook s
reading_as = by_kind (λ e s. RefusesReading e → RefusesLook s) (λ refused. refused) (λ count limit refused. refused) (λ refused. refused)

replace_untouched : (T S : Type 0) {D : Type 0} (old new : D) (e : JournalError) (s : StoreError) → IsToldAs e s → RefusesReading e
    → (IsErrOf {T = T} (Err e) OutOfMemory → new ≡ old) → IsUnchanged {T = S} (Err s) old new
replace_untouched T S old new =
    by_kind (λ e s. RefusesReading e → (IsErrOf {T = T} (Err e) OutOfMemory → new ≡ old) → IsUnchanged {T = S} (Err s) old new) (λ refused memory. tt)
    (λ count limit refused memory. absurd refused) (λ refused memory. memory refl)

-- ---- what stands at the disk then
module _ {D : Type 0} (g : disk.Ghosts D) where
  pub refused_appends : (T S : Type 0) (p : List ℕ) (limit : ℕ) (journal journal_new : Journal) (old new : D) (e : JournalError) (s : StoreError) → IsToldAs e s
      → (IsTrue (g.tells old) → LeavesOnly g old new (HoldsEither (journal_of (g.seen old)) (with_batch journal (journal_of (g.seen old)) p)))
      → (IsTrue (g.tells old) → StaysWithin g (max (length (g.seen old)) (size_after journal.end journal.version p)) old new)
      → RefusesAppend (size_after journal.end journal.version p) limit e → ((count most : ℕ) → IsErrOf {T = T} (Err e) (Full count most) → new ≡ old)
      → ((count most : ℕ) → IsErrOf {T = T} (Err e) (Full count most) → IsTrue (g.tells old) → IsSettled g journal_new new)
      → journal_new.version ≡ journal.version → journal_new.generation ≡ journal.generation → g.tells new ≡ g.tells old
      → CountsDiskFault {T = T} (Err e) (g.faults old) (g.faults new) (g.failed new) → journal_new.end ≡ journal.end
      → Appends {T = S} g p limit journal journal_new old new (Err s)
  refused_appends T S p limit journal journal_new old new e s told moment short refused unwritten still version generation tells cause kept =
      let size : ℕ = size_after journal.end journal.version p in
      record {
        settled = tt;
        held = tt;
        any_moment = moment;
        no_longer = short;
        fits = tt;
        longer = tt;
        kept = kept;
        refused = length_as T S size limit e s told refused;
        untouched = append_untouched T S size limit old new e s told refused unwritten;
        still = append_still T S size limit (IsTrue (g.tells old) → IsSettled g journal_new new) e s told refused still;
        version = version;
        generation = generation;
        tells = tells;
        cause = cause_as T S (g.failed new) e s told (g.faults old) (g.faults new) cause;
      }

  pub refused_replaces : (T : Type 0) (generation : ℕ) (p : List ℕ) (old new : D) (e : JournalError) (s : StoreError) → IsToldAs e s
      → (IsTrue (g.tells old) → LeavesOnly g old new (IsReplaced (g.seen old) (holds 2 generation ((26, p) ∷ []))))
      → RefusesReading e → (IsErrOf {T = T} (Err e) OutOfMemory → new ≡ old) → g.tells new ≡ g.tells old
      → CountsDiskFault {T = T} (Err e) (g.faults old) (g.faults new) (g.failed new) → Replaces g generation p old new (Err s)
  refused_replaces T generation p old new e s told moment refused untouched tells cause =
      record {
        version = tt;
        generation = tt;
        settled = tt;
        end = tt;
        held = tt;
        written = tt;
        any_moment = moment;
        refused = reading_as e s told refused;
        untouched = replace_untouched T Journal old new e s told refused untouched;
        tells = tells;
        cause = cause_as T Journal (g.failed new) e s told (g.faults old) (g.faults new) cause;
      }
