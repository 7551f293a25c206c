-- What holds after a batch was put at the place of a store, or wasn't.
use Rattle.std.proofs.Common.{◌≡◌, ◌≤◌, ◌∙◌, ℕ, ◌+◌, Bool, true, false, List, [], ◌∷◌, length, Result, Ok, Err, refl, sym, ap, subst}
use Rattle.std.specs.Prelude.{IsTrue}
use Rattle.wc_disk.specs.declared.disk.Disk as disk
use Rattle.wc_journal.specs.declared.journal.Journal.{Journal}
use Rattle.wc_journal.specs.Reading.{journal_of, batches_of, is_snapshot_place, holds}
use Rattle.wc_journal.specs.Journals.{IsSettled, with_batch}
use Rattle.wc_journal.specs.Refusals.{size_after}
use Rattle.wc_record.specs.Spelled.{spelled}
use Rattle.wc_record.specs.Reading.{whole}
use Rattle.wc_record.specs.Written.{IsWritten}
use Rattle.wc_record.proofs.Whole.{written_is_read}
use Rattle.wc_state.specs.declared.record.Limits.{Limits}
use Rattle.wc_world.specs.declared.change.Change.{Change}
use Rattle.wc_world.specs.World.{World}
use Rattle.wc_world.specs.Room.{Holding}
use Rattle.wc_world.specs.Applied.{applied}
use Rattle.wc_world.specs.Accepted.{IsAccepted, IsReached}
use Rattle.wc_world.specs.Snapshot.{snapshot}
use Rattle.wc_store.specs.declared.error.StoreError.{StoreError}
use Rattle.wc_store.specs.declared.error.StoreError.TheVariants.{DiskFault, Damaged, Full, AlreadyThere, OutOfMemory}
use Rattle.wc_store.specs.declared.store.Store.{Store}
use Rattle.wc_store.specs.Places.{its, opposite}
use Rattle.wc_store.specs.Stores.{other, StandsFor, CommitLeaves, PackLeaves}
use Rattle.wc_store.specs.Held.{is_plain}
use Rattle.wc_store.specs.Writes.{Appends, Replaces}
use Rattle.wc_store.specs.Prepared.{HasGeneration, RefusesChanges, RefusesSnapshot}
use Rattle.wc_store.specs.Refusals.{IsUnchanged, byte_limit, is_live_after}
use Rattle.wc_store.specs.Stepped.{Called, InGeneration, IsCommitted, Stepped}
use Rattle.wc_store.proofs.Chosen.{Keeps}
use Rattle.wc_store.proofs.Commits.{no_snapshot, kept_by, own_durable, other_durable, stands_again, stands_here, stands_committed, keeps_after, commit_leaves}
use Rattle.wc_store.proofs.Packs.{keeps_there, pack_leaves, stands_packed}
use Rattle.wc_store.proofs.Counted.{counted_none, own_told, other_told, both_told, unchanged_other, unchanged_own, same_after}
use Rattle.wc_store.proofs.Imaged.{images_same}
use Rattle.wc_store.proofs.Stepping.{not_called, stands_leaves}

module _ {D : Type 0} (g : disk.Ghosts D) (store : Store) (one two : D) (stands : IsTrue (g.tells one) → IsTrue (g.tells two) → StandsFor g store one two) where
  -- ---- before the call
  pub settled_there : g.tells one ≡ g.tells two → IsTrue (g.tells (its store.place one two)) → IsSettled g store.journal (its store.place one two)
  settled_there alike told =
      let both : IsTrue (g.tells one) × IsTrue (g.tells two) = both_told g one two store.place alike told in
      (stands both.0 both.1).settled

  pub plain_there : g.tells one ≡ g.tells two → IsTrue (g.tells (its store.place one two))
      → is_snapshot_place store.journal.generation (length (batches_of (journal_of (g.seen (its store.place one two))))) ≡ false
  plain_there alike told =
      let both : IsTrue (g.tells one) × IsTrue (g.tells two) = both_told g one two store.place alike told in
      no_snapshot store.journal.generation _ (kept_by g store one two (stands both.0 both.1)).some

  module _ (first : IsTrue (g.tells one)) (second : IsTrue (g.tells two)) where
    abbrev keeps : Keeps store.place store.journal.version store.journal.generation (batches_of (journal_of (g.seen (its store.place one two)))) store.world.world
        (g.seen (its store.place one two)) (g.seen (other store.place one two))
    keeps = kept_by g store one two (stands first second)

    -- ---- after a batch of changes
    module _ (cs : List Change) (p : List ℕ) (limit : ℕ) (journal : Journal) (one_new two_new : D) {T : Type 0} (result : Result T StoreError)
        (payload : p ≡ spelled cs) (written : IsWritten cs) (plain : is_plain cs ≡ true) (accepted : IsAccepted store.world.world cs)
        (appends : Appends g p limit store.journal journal (its store.place one two) (its store.place one_new two_new) result)
        (same : other store.place one_new two_new ≡ other store.place one two) where
      read : whole p (Ok cs)
      read = subst (λ (q : List ℕ). whole q (Ok cs)) (sym payload) (written_is_read cs written)

      pub appended_leaves : (limits : Limits) → limit ≡ byte_limit store.journal.version limits.max_bytes
          → ((d : D) (image : List ℕ) → g.left_since d (g.moment d) image → g.may_leave d image) → CommitLeaves g store limits cs one two one_new two_new
      appended_leaves limits is only_now =
          let a : Appends g p (byte_limit store.journal.version limits.max_bytes) store.journal journal (its store.place one two) (its store.place one_new two_new) result
          = subst (λ (n : ℕ). Appends g p n store.journal journal (its store.place one two) (its store.place one_new two_new) result) is appends in
          commit_leaves g store one two (stands first second) cs p read plain accepted limits payload only_now one_new two_new
          (a.any_moment (own_told g one two store.place first second)) result same a.fits a.refused a.untouched

      pub appended_stands : (world : Holding) (live : Bool) → world.world ≡ applied store.world.world cs
          → (IsTrue (g.tells (its store.place one two)) → IsSettled g journal (its store.place one_new two_new))
          → (IsTrue (g.tells (its store.place one two)) → journal_of (g.seen (its store.place one_new two_new)) ≡ with_batch store.journal (journal_of (g.seen (its store.place one two))) p)
          → StandsFor g (record { world = world; journal = journal; place = store.place; live = live }) one_new two_new
      appended_stands world live is settled held =
          let told = own_told g one two store.place first second in
          stands_committed g store.place world store.journal journal live store.world.world cs one two one_new two_new
          (keeps_after g store one two (stands first second) cs p read plain accepted (g.seen (its store.place one_new two_new)) (held told))
          same (other_durable g store.place one two (stands first second).durable_one (stands first second).durable_two) (settled told) appends.version appends.generation is

    pub refused_stands : (T : Type 0) (e : StoreError) (p : List ℕ) (limit : ℕ) (journal : Journal) (one_new two_new : D) (world : Holding) (live : Bool)
        → Appends {T = T} g p limit store.journal journal (its store.place one two) (its store.place one_new two_new) (Err e)
        → other store.place one_new two_new ≡ other store.place one two → world.world ≡ store.world.world → is_live_after {T = T} (Err e) true ≡ true
        → StandsFor g (record { world = world; journal = journal; place = store.place; live = live }) one_new two_new
    refused_stands T e p limit journal one_new two_new world live appends same is stays =
        let both = unchanged_own {T = T} (Err e) one two one_new two_new store.place appends.untouched same in
        stands_again g store world journal live one two one_new two_new (stands first second) is appends.version appends.generation
        (appends.still stays (own_told g one two store.place first second)) (same_after T e one one_new stays both.0) (same_after T e two two_new stays both.1)

    -- ---- after a snapshot
    module _ (p : List ℕ) (one_new two_new : D) (result : Result Journal StoreError) (payload : p ≡ spelled (snapshot store.world.world)) (written : IsWritten (snapshot store.world.world))
        (reached : IsReached store.world.world)
        (room : HasGeneration store.journal.generation store.world.world)
        (replaces : Replaces g (store.journal.generation + 1) p (other store.place one two) (other store.place one_new two_new) result)
        (same : its store.place one_new two_new ≡ its store.place one two) where
      read_back : whole p (Ok (snapshot store.world.world))
      read_back = subst (λ (q : List ℕ). whole q (Ok (snapshot store.world.world))) (sym payload) (written_is_read (snapshot store.world.world) written)

      pub replaced_leaves : PackLeaves g store one two one_new two_new
      replaced_leaves =
          pack_leaves g store one two keeps (stands first second).settled.stands.end p reached read_back payload room one_new two_new same
          (replaces.any_moment (other_told g one two store.place first second))

      pub replaced_stands : (world : Holding) (journal : Journal) (live : Bool) → world.world ≡ store.world.world → journal.version ≡ 2
          → journal.generation ≡ store.journal.generation + 1
          → (IsTrue (g.tells (other store.place one two)) → IsSettled g journal (other store.place one_new two_new))
          → (IsTrue (g.tells (other store.place one two)) → journal_of (g.seen (other store.place one_new two_new)) ≡ holds 2 (store.journal.generation + 1) ((26, p) ∷ []))
          → StandsFor g (record { world = world; journal = journal; place = opposite store.place; live = live }) one_new two_new
      replaced_stands world journal live is version generation settled held =
          let told = other_told g one two store.place first second in
          let there = keeps_there g store one two keeps (stands first second).settled.stands.end p reached read_back (g.seen (other store.place one_new two_new)) (held told) in
          stands_packed g store.place world (store.journal.generation + 1) journal live one two one_new two_new
          (subst (λ (w : World). Keeps (opposite store.place) 2 (store.journal.generation + 1) (batches_of (journal_of (g.seen (other store.place one_new two_new)))) w
          (g.seen (other store.place one_new two_new)) (g.seen (its store.place one two))) (sym is) there)
          same (own_durable g store.place one two (stands first second).durable_one (stands first second).durable_two) (settled told) version generation

-- ---- a commit and its refusal

-- the changes are committed by a journal that has their bytes as one batch more
pub committed_by : (store : Store) (limits : Limits) (cs : List Change) (p : List ℕ) (world : Holding) (journal : Journal) (limit : ℕ) → p ≡ spelled cs
    → limit ≡ byte_limit store.journal.version limits.max_bytes → world.world ≡ applied store.world.world cs → length (applied store.world.world cs).nodes ≤ limits.max_nodes
    → journal.version ≡ store.journal.version → journal.generation ≡ store.journal.generation
    → journal.end + 1 ≡ size_after store.journal.end store.journal.version p → size_after store.journal.end store.journal.version p ≤ limit
    → IsCommitted limits cs store world.world journal
committed_by store limits cs p world journal limit payload most same nodes version generation longer fits = record {
  world = same;
  nodes = subst (λ (w : World). length w.nodes ≤ limits.max_nodes) (sym same) nodes;
  longer = record {
    version = version;
    generation = generation;
    longer = longer ∙ ap (size_after store.journal.end store.journal.version) payload;
    fits = subst (λ (v : ℕ). journal.end + 1 ≤ byte_limit v limits.max_bytes) (sym version)
        (subst (λ (n : ℕ). journal.end + 1 ≤ n) most (subst (λ (n : ℕ). n ≤ limit) (sym longer) fits));
  };
}

-- what is refused before any disk is called is no fault
refused_whole : (journal : Journal) (limits : Limits) (w : World) (cs : List Change) (e : StoreError) → RefusesChanges journal limits w cs e
    → is_live_after {T = Unit {0}} (Err e) true ≡ true
refused_whole journal limits w cs DiskFault h = absurd h
refused_whole journal limits w cs (Damaged disk at found) h = refl
refused_whole journal limits w cs (Full what count limit) h = refl
refused_whole journal limits w cs AlreadyThere h = refl
refused_whole journal limits w cs OutOfMemory h = refl

-- a step of a store that only got room for changes
pub unprepared : {D : Type 0} (g : disk.Ghosts D) (P : World → Journal → Type 0) (store : Store) (world : Holding) (one two : D)
    → ((d : D) (image : List ℕ) → g.left_since d (g.moment d) image → g.may_leave d image) → store.live ≡ true
    → (IsTrue (g.tells one) → IsTrue (g.tells two) → StandsFor g store one two) → world.world ≡ store.world.world → P store.world.world store.journal
    → P world.world store.journal → (journal : Journal) (limits : Limits) (w : World) (cs : List Change) (e : StoreError) → RefusesChanges journal limits w cs e
    → Stepped g P (is_live_after {T = Unit {0}} (Err e) true) store one two (record store { world = world }) one two
unprepared g P store world one two only_now live stands same here there journal limits w cs e refused =
    let is : is_live_after {T = Unit {0}} (Err e) true ≡ true = refused_whole journal limits w cs e refused in
    record {
      call = record {
        live = live ∙ sym is;
        stands = λ whole told told_too.
            let s : StandsFor g store one two = stands told told_too in
            stands_here g store world store.journal store.live one two s same refl refl s.settled;
        tells_one = refl;
        tells_two = refl;
        counts = counted_none (is_live_after {T = Unit {0}} (Err e) true) (g.faults one) (g.faults two) (g.failed one) (g.failed two) is;
      };
      place = refl;
      comes = record { holds = there; version = refl; generation = refl };
      images = images_same store world store.journal store.live same refl refl refl;
      moments = λ told told_too.
          stands_leaves g store (InGeneration store.journal P) one two only_now (stands told told_too) (record { holds = here; version = refl; generation = refl });
    }

-- ---- a pack and its refusal

pack_refused_whole : (generation : ℕ) (w : World) (e : StoreError) → RefusesSnapshot generation w e → is_live_after {T = ℕ} (Err e) true ≡ true
pack_refused_whole generation w DiskFault h = absurd h
pack_refused_whole generation w (Damaged disk at found) h = refl
pack_refused_whole generation w (Full what count limit) h = refl
pack_refused_whole generation w AlreadyThere h = refl
pack_refused_whole generation w OutOfMemory h = refl

-- a store for which there was no snapshot was not called
pub unpacked : {D : Type 0} (g : disk.Ghosts D) (store : Store) (one two : D) → store.live ≡ true
    → (IsTrue (g.tells one) → IsTrue (g.tells two) → StandsFor g store one two) → (generation : ℕ) (w : World) (e : StoreError) → RefusesSnapshot generation w e
    → Called g (is_live_after {T = ℕ} (Err e) true) one two store one two
unpacked g store one two live stands generation w e refused =
    subst (λ (b : Bool). Called g b one two store one two) (sym (pack_refused_whole generation w e refused)) (not_called g store one two live stands)

-- a pack that failed no disk left them as they were
pub replaced_none : {D : Type 0} (g : disk.Ghosts D) (store : Store) (one two one_new two_new : D) (e : StoreError) (live : Bool)
    → IsUnchanged {T = Journal} (Err e) (other store.place one two) (other store.place one_new two_new) → its store.place one_new two_new ≡ its store.place one two
    → is_live_after {T = ℕ} (Err e) true ≡ true → StandsFor g store one two → StandsFor g (record store { live = live }) one_new two_new
replaced_none {D} g store one two one_new two_new e live still same steady stands =
    let both = unchanged_other ℕ Journal e one two one_new two_new store.place still same in
    stands_again g store store.world store.journal live one two one_new two_new stands refl refl refl
    (settled_as (same_after ℕ e one one_new steady both.0) (same_after ℕ e two two_new steady both.1))
    (same_after ℕ e one one_new steady both.0) (same_after ℕ e two two_new steady both.1)
  where
    settled_as : one_new ≡ one → two_new ≡ two → IsSettled g store.journal (its store.place one_new two_new)
    settled_as same_one same_two =
        subst (λ (d : D × D). IsSettled g store.journal (its store.place d.0 d.1)) (λ i. (sym same_one i, sym same_two i)) stands.settled
