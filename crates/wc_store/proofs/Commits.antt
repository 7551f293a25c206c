-- What a commit leaves.
use Rattle.std.proofs.Common.{◌≡◌, inl, inr, ⊎_elim, ℕ, ◌+◌, ◌≤◌, Bool, true, false, List, [], ◌∷◌, ◌++◌, length, Result, Ok, Err, refl, sym, ◌∙◌, ap, subst, arith}
use Rattle.std.specs.Prelude.{◌&&◌, nat_le, IfErr, OnOk}
use Rattle.std.proofs.lemmas.Bool.Decides.{nat_tests}
use Rattle.wc_disk.specs.declared.disk.Disk as disk
use Rattle.wc_disk.specs.Steps.{Only}
use Rattle.wc_disk.specs.Images.{LeavesOnly}
use Rattle.wc_disk.proofs.Runs.{no_call, weaker_run}
use Rattle.wc_journal.specs.declared.journal.Journal.{Journal}
use Rattle.wc_journal.specs.Reading.{Placed, holds, journal_of, batches_of, end_from, end_of, size_of, is_snapshot_place}
use Rattle.wc_journal.specs.Refusals.{size_after}
use Rattle.wc_journal.specs.Journals.{IsSettled, with_batch}
use Rattle.wc_journal.specs.Journals as journals
use Rattle.wc_record.specs.Reading.{whole}
use Rattle.wc_record.specs.Spelled.{spelled}
use Rattle.wc_state.specs.declared.record.Limits.{Limits}
use Rattle.wc_world.specs.declared.change.Change.{Change}
use Rattle.wc_world.specs.World.{World, empty}
use Rattle.wc_world.specs.Room.{Holding}
use Rattle.wc_world.specs.Applied.{applied}
use Rattle.wc_world.specs.Accepted.{IsAccepted}
use Rattle.wc_store.specs.declared.error.StoreError.{StoreError}
use Rattle.wc_store.specs.declared.error.StoreError.TheVariants.{DiskFault, Damaged, Full, AlreadyThere, OutOfMemory}
use Rattle.wc_store.specs.declared.store.Store.{Store}
use Rattle.wc_store.specs.declared.place.Place.{Place}
use Rattle.wc_store.specs.declared.place.Place.TheVariants.{One, Two}
use Rattle.wc_store.specs.Places.{number_of, its}
use Rattle.wc_store.specs.Writes.{RefusesLength}
use Rattle.wc_store.specs.Refusals.{IsUnchanged, byte_limit}
use Rattle.wc_store.specs.Stores.{other, StandsFor, CommitLeaves, HoldsBy, HoldsEither, IsLonger}
use Rattle.wc_store.specs.Choices.{on, chosen, is_nil}
use Rattle.wc_store.specs.Held.{a_world, is_plain, suits, IsHeld}
use Rattle.wc_store.proofs.Playing.{plays_any_image, plays_one_more}
use Rattle.wc_store.proofs.Chosen.{HasSome, Keeps, chooses_as, keeps_from, keeps_chosen, keeps_held, keeps_as, keeps_named}

-- ---- an image with the same journal, and one with a batch more
pub keeps_same : (place : Place) (v g : ℕ) (bs : Placed) (w : World) (own image rest : List ℕ) → Keeps place v g bs w own rest → journal_of image ≡ journal_of own
    → Keeps place v g bs w image rest
keeps_same place v g bs w own image rest keeps same = record {
  held = same ∙ keeps.held;
  before = keeps.before;
  some = keeps.some;
  plays = plays_any_image (number_of place) own image g 0 empty w bs keeps.plays;
}

-- a batch behind those of a chosen journal is no snapshot
pub no_snapshot : (g : ℕ) (bs : Placed) → HasSome g bs → is_snapshot_place g (length bs) ≡ false
no_snapshot g [] some = some
no_snapshot g (b ∷ bs) some = grind (arith, nat_tests)

longer : (bs : Placed) (b : ℕ × List ℕ) → is_nil (bs ++ b ∷ []) ≡ false
longer [] b = refl
longer (c ∷ bs) b = refl

suits_plain : (snapshot : Bool) (cs : List Change) → snapshot ≡ false → is_plain cs ≡ true → suits snapshot cs ≡ true
suits_plain snapshot cs is plain = subst (λ (s : Bool). suits s cs ≡ true) (sym is) plain

pub keeps_more : (place : Place) (v g : ℕ) (bs : Placed) (w : World) (own image rest : List ℕ) (at : ℕ) (p : List ℕ) (cs : List Change) → Keeps place v g bs w own rest
    → whole p (Ok cs) → is_plain cs ≡ true → IsAccepted w cs → journal_of image ≡ holds v g (bs ++ (at, p) ∷ []) → Keeps place v g (bs ++ (at, p) ∷ []) (applied w cs) image rest
keeps_more place v g bs w own image rest at p cs keeps read plain accepted held =
    let number : 0 + length bs ≡ length bs = omega arith in
    let later : is_snapshot_place g (0 + length bs) ≡ false = ap (is_snapshot_place g) number ∙ no_snapshot g bs keeps.some in
    record {
      held = held;
      before = keeps.before;
      some = ap (λ (c : Bool). c && nat_le 2 g) (longer bs (at, p));
      plays = plays_one_more (number_of place) image g 0 empty w bs at p cs (plays_any_image (number_of place) own image g 0 empty w bs keeps.plays)
          read (suits_plain (is_snapshot_place g (0 + length bs)) cs later plain) accepted;
    }

-- the same in other words
pub keeps_moved : (place : Place) (v u g h : ℕ) (bs : Placed) (w x : World) (own rest side : List ℕ) → v ≡ u → g ≡ h → w ≡ x → rest ≡ side → Keeps place v g bs w own rest
    → Keeps place u h bs x own side
keeps_moved place v u g h bs w x own rest side same_v same_g same_w same_rest keeps =
    subst (λ (n : ℕ). Keeps place n h bs x own side) same_v (subst (λ (n : ℕ). Keeps place v n bs x own side) same_g
    (subst (λ (y : World). Keeps place v g bs y own side) same_w (subst (λ (i : List ℕ). Keeps place v g bs w own i) same_rest keeps)))

-- where one batch more ends
end_push : (at : ℕ) (bs : Placed) (b : ℕ × List ℕ) → end_from at (bs ++ b ∷ []) ≡ b.0 + length b.1
end_push at [] b = refl
end_push at (c ∷ bs) b = end_push (c.0 + length c.1) bs b

-- what is kept is held by the journal of the batches
pub holds_by : (place : Place) (journal : Journal) (bs : Placed) (w : World) (own rest : List ℕ) → Keeps place journal.version journal.generation bs w own rest
    → journal.end ≡ end_of bs → HoldsBy place own rest w journal
holds_by place journal bs w own rest keeps end = record {
  held = keeps_as place journal.version journal.generation bs w own rest keeps;
  batches = bs;
  chooses = chooses_as place journal.version journal.generation bs w own rest keeps;
  end = end;
}

-- ---- stores
module _ {D : Type 0} (g : disk.Ghosts D) where
  pub kept_at : (place : Place) (v n : ℕ) (bs : Placed) (w : World) (one two : D) → chosen (g.seen one) (g.seen two) ≡ on (number_of place) v n bs
      → IsHeld (g.seen one) (g.seen two) (a_world w) → Keeps place v n bs w (g.seen (its place one two)) (g.seen (other place one two))
  kept_at One v n bs w one two is held = keeps_from One v n bs w (g.seen one) (g.seen two) is held
  kept_at Two v n bs w one two is held = keeps_from Two v n bs w (g.seen one) (g.seen two) is held

  -- a store that stands for two disks keeps its world on the disk that it is on
  pub kept_by : (store : Store) (one two : D) → StandsFor g store one two
      → Keeps store.place store.journal.version store.journal.generation (batches_of (journal_of (g.seen (its store.place one two)))) store.world.world
      (g.seen (its store.place one two)) (g.seen (other store.place one two))
  kept_by store one two stands = kept_at store.place store.journal.version store.journal.generation _ store.world.world one two stands.chooses stands.held

  pub own_durable : (place : Place) (one two : D) → Only (g.seen one) (g.may_leave one) → Only (g.seen two) (g.may_leave two)
      → Only (g.seen (its place one two)) (g.may_leave (its place one two))
  own_durable One one two first second = first
  own_durable Two one two first second = second

  pub other_durable : (place : Place) (one two : D) → Only (g.seen one) (g.may_leave one) → Only (g.seen two) (g.may_leave two)
      → Only (g.seen (other place one two)) (g.may_leave (other place one two))
  other_durable One one two first second = second
  other_durable Two one two first second = first

  -- and one that keeps its world so stands for them
  pub stands_at : (place : Place) (world : Holding) (journal : Journal) (live : Bool) (one two : D)
      → Only (g.seen (its place one two)) (g.may_leave (its place one two)) → Only (g.seen (other place one two)) (g.may_leave (other place one two))
      → IsSettled g journal (its place one two)
      → Keeps place journal.version journal.generation (batches_of (journal_of (g.seen (its place one two)))) world.world (g.seen (its place one two)) (g.seen (other place one two))
      → StandsFor g (record { world = world; journal = journal; place = place; live = live }) one two
  stands_at One world journal live one two own rest settled keeps = record {
    durable_one = own;
    durable_two = rest;
    chooses = keeps_chosen One journal.version journal.generation _ world.world (g.seen one) (g.seen two) keeps;
    held = keeps_held One journal.version journal.generation _ world.world (g.seen one) (g.seen two) keeps;
    settled = settled;
  }
  stands_at Two world journal live one two own rest settled keeps = record {
    durable_one = rest;
    durable_two = own;
    chooses = keeps_chosen Two journal.version journal.generation _ world.world (g.seen one) (g.seen two) keeps;
    held = keeps_held Two journal.version journal.generation _ world.world (g.seen one) (g.seen two) keeps;
    settled = settled;
  }

  -- a store whose disks are unchanged still stands for them
  pub stands_here : (store : Store) (world : Holding) (journal : Journal) (live : Bool) (one two : D) → StandsFor g store one two → world.world ≡ store.world.world
      → journal.version ≡ store.journal.version → journal.generation ≡ store.journal.generation → IsSettled g journal (its store.place one two)
      → StandsFor g (record { world = world; journal = journal; place = store.place; live = live }) one two
  stands_here store world journal live one two stands same version generation settled = record {
    durable_one = stands.durable_one;
    durable_two = stands.durable_two;
    chooses = stands.chooses ∙ (λ i. on (number_of store.place) (sym version i) (sym generation i) (batches_of (journal_of (g.seen (its store.place one two)))));
    held = subst (λ (w : World). IsHeld (g.seen one) (g.seen two) (a_world w)) (sym same) stands.held;
    settled = settled;
  }

  pub stands_again : (store : Store) (world : Holding) (journal : Journal) (live : Bool) (one two one_new two_new : D) → StandsFor g store one two → world.world ≡ store.world.world
      → journal.version ≡ store.journal.version → journal.generation ≡ store.journal.generation → IsSettled g journal (its store.place one_new two_new)
      → one_new ≡ one → two_new ≡ two → StandsFor g (record { world = world; journal = journal; place = store.place; live = live }) one_new two_new
  stands_again store world journal live one two one_new two_new stands same version generation settled same_one same_two =
      let after : StandsFor g store one_new two_new
      = subst (λ (d : D). StandsFor g store one_new d) (sym same_two) (subst (λ (d : D). StandsFor g store d two) (sym same_one) stands) in
      stands_here store world journal live one_new two_new after same version generation settled

  -- ---- a commit
  module _ (store : Store) (one two : D) (stands : StandsFor g store one two) where
    abbrev Own : List ℕ
    Own = g.seen (its store.place one two)

    abbrev Rest : List ℕ
    Rest = g.seen (other store.place one two)

    abbrev Batches : Placed
    Batches = batches_of (journal_of Own)

    -- an image with the same journal
    holds_same : (image : List ℕ) → journal_of image ≡ journal_of Own → HoldsBy store.place image Rest store.world.world store.journal
    holds_same image same =
        holds_by store.place store.journal Batches store.world.world image Rest
        (keeps_same store.place store.journal.version store.journal.generation Batches store.world.world Own image Rest (kept_by store one two stands) same) stands.settled.stands.end

    -- where the disk isn't called
    same_run : (limits : Limits) (cs : List Change) → ((d : D) (image : List ℕ) → g.left_since d (g.moment d) image → g.may_leave d image)
        → LeavesOnly g (its store.place one two) (its store.place one two) (HoldsEither store limits cs Rest)
    same_run limits cs only_now =
        let only : Only Own (g.may_leave (its store.place one two)) = own_durable store.place one two stands.durable_one stands.durable_two in
        no_call g (its store.place one two) (HoldsEither store limits cs Rest)
        (λ image left. inl (holds_same image (ap journal_of (only image (only_now (its store.place one two) image left)))))

    pub nothing_committed : (limits : Limits) (cs : List Change) → ((d : D) (image : List ℕ) → g.left_since d (g.moment d) image → g.may_leave d image)
        → CommitLeaves g store limits cs one two one two
    nothing_committed limits cs only_now = record { untouched = refl; each = same_run limits cs only_now }

    module _ (cs : List Change) (p : List ℕ) (read : whole p (Ok cs)) (plain : is_plain cs ≡ true) (accepted : IsAccepted store.world.world cs) where
      abbrev Longer : Placed
      Longer = Batches ++ (store.journal.end + 1 + size_of store.journal.version, p) ∷ []

      keeps_longer : (image : List ℕ) → journal_of image ≡ with_batch store.journal (journal_of Own) p
          → Keeps store.place store.journal.version store.journal.generation Longer (applied store.world.world cs) image Rest
      keeps_longer image held =
          keeps_more store.place store.journal.version store.journal.generation Batches store.world.world Own image Rest (store.journal.end + 1 + size_of store.journal.version) p cs
          (kept_by store one two stands) read plain accepted held

      pub keeps_after : (image : List ℕ) → journal_of image ≡ with_batch store.journal (journal_of Own) p
          → Keeps store.place store.journal.version store.journal.generation (batches_of (journal_of image)) (applied store.world.world cs) image Rest
      keeps_after image held =
          keeps_named store.place store.journal.version store.journal.generation Longer (applied store.world.world cs) image Rest (keeps_longer image held)

      module _ (limits : Limits) (payload : p ≡ spelled cs) where
        -- the journal with the batch
        abbrev longer_journal : Journal
        longer_journal = record store.journal { end = store.journal.end + 1 + size_of store.journal.version + length p }

        is_longer : size_after store.journal.end store.journal.version p ≤ byte_limit store.journal.version limits.max_bytes
            → IsLonger limits store.journal cs longer_journal
        is_longer fits = record {
          version = refl;
          generation = refl;
          longer = ap (λ (q : List ℕ). size_after store.journal.end store.journal.version q) payload;
          fits = fits;
        }

        holds_longer : (image : List ℕ) → journal_of image ≡ with_batch store.journal (journal_of Own) p
            → HoldsBy store.place image Rest (applied store.world.world cs) longer_journal
        holds_longer image held =
            holds_by store.place longer_journal Longer (applied store.world.world cs) image Rest (keeps_longer image held)
            (sym (end_push 16 Batches (store.journal.end + 1 + size_of store.journal.version, p)))

        module _ (only_now : (d : D) (image : List ℕ) → g.left_since d (g.moment d) image → g.may_leave d image) (one_new two_new : D)
            (run : LeavesOnly g (its store.place one two) (its store.place one_new two_new) (journals.HoldsEither (journal_of Own) (with_batch store.journal (journal_of Own) p))) where
          -- where the batch is within the limit
          written_run : size_after store.journal.end store.journal.version p ≤ byte_limit store.journal.version limits.max_bytes
              → LeavesOnly g (its store.place one two) (its store.place one_new two_new) (HoldsEither store limits cs Rest)
          written_run fits =
              weaker_run g (its store.place one two) (its store.place one_new two_new) _ _ run
              (λ image. ⊎_elim (λ same. inl (holds_same image same)) (λ more. inr (longer_journal, is_longer fits, holds_longer image more)))

          -- whatever is answered
          commit_run : {T : Type 0} (r : Result T StoreError) → OnOk r (size_after store.journal.end store.journal.version p ≤ byte_limit store.journal.version limits.max_bytes)
              → IfErr r (RefusesLength (size_after store.journal.end store.journal.version p) (byte_limit store.journal.version limits.max_bytes))
              → IsUnchanged r (its store.place one two) (its store.place one_new two_new)
              → LeavesOnly g (its store.place one two) (its store.place one_new two_new) (HoldsEither store limits cs Rest)
          commit_run (Ok a) fits refused still = written_run fits
          commit_run (Err DiskFault) fits refused still = written_run refused
          commit_run (Err (Damaged disk at found)) fits refused still = absurd refused
          commit_run (Err (Full what count limit)) fits refused still =
              subst (λ (d : D). LeavesOnly g (its store.place one two) d (HoldsEither store limits cs Rest)) (sym still) (same_run limits cs only_now)
          commit_run (Err AlreadyThere) fits refused still = absurd refused
          commit_run (Err OutOfMemory) fits refused still =
              subst (λ (d : D). LeavesOnly g (its store.place one two) d (HoldsEither store limits cs Rest)) (sym still) (same_run limits cs only_now)

          pub commit_leaves : {T : Type 0} (r : Result T StoreError) → other store.place one_new two_new ≡ other store.place one two
              → OnOk r (size_after store.journal.end store.journal.version p ≤ byte_limit store.journal.version limits.max_bytes)
              → IfErr r (RefusesLength (size_after store.journal.end store.journal.version p) (byte_limit store.journal.version limits.max_bytes))
              → IsUnchanged r (its store.place one two) (its store.place one_new two_new) → CommitLeaves g store limits cs one two one_new two_new
          commit_leaves r same fits refused still = record { untouched = same; each = commit_run r fits refused still }

  -- a store that has written its changes
  pub stands_committed : (place : Place) (world : Holding) (journal journal_new : Journal) (live : Bool) (w : World) (cs : List Change) (one two one_new two_new : D)
      → Keeps place journal.version journal.generation (batches_of (journal_of (g.seen (its place one_new two_new)))) (applied w cs)
      (g.seen (its place one_new two_new)) (g.seen (other place one two))
      → other place one_new two_new ≡ other place one two → Only (g.seen (other place one two)) (g.may_leave (other place one two))
      → IsSettled g journal_new (its place one_new two_new) → journal_new.version ≡ journal.version → journal_new.generation ≡ journal.generation
      → world.world ≡ applied w cs → StandsFor g (record { world = world; journal = journal_new; place = place; live = live }) one_new two_new
  stands_committed place world journal journal_new live w cs one two one_new two_new keeps same only settled version generation is =
      stands_at place world journal_new live one_new two_new settled.durable (subst (λ (d : D). Only (g.seen d) (g.may_leave d)) (sym same) only) settled
      (keeps_moved place _ _ _ _ _ _ _ _ _ _ (sym version) (sym generation) (sym is) (ap g.seen (sym same)) keeps)
