-- Calls of a store in two parts: both disks are read, and then one is written.
use Rattle.std.proofs.Common.{◌≡◌, ◌⊎◌, ◌≤◌, inl, inr, ⊎_elim, ℕ, List, Result, Ok, Err, OnOk, refl, sym, ◌∙◌, subst, arith}
use Rattle.wc_disk.specs.declared.disk.Disk as disk
use Rattle.wc_disk.specs.Steps.{Only}
use Rattle.wc_disk.specs.Images.{LeavesOnly}
use Rattle.wc_journal.specs.declared.journal.Journal.{Journal}
use Rattle.wc_state.specs.declared.record.Limits.{Limits}
use Rattle.wc_world.specs.World.{World}
use Rattle.wc_world.specs.Applied.{applied}
use Rattle.wc_world.specs.declared.change.Change.{Change}
use Rattle.wc_store.specs.declared.error.StoreError.{StoreError}
use Rattle.wc_store.specs.declared.error.StoreError.TheVariants.{DiskFault, Damaged, Full, AlreadyThere, OutOfMemory}
use Rattle.wc_store.specs.declared.place.Place.{Place}
use Rattle.wc_store.specs.declared.place.Place.TheVariants.{One, Two}
use Rattle.wc_store.specs.Places.{its}
use Rattle.wc_store.specs.declared.store.Store.{Store}
use Rattle.wc_store.specs.Held.{a_world}
use Rattle.wc_store.specs.Stores.{other, HoldsAs, HoldsBy, HoldsEither, HoldsPacked, CommitLeaves, PackLeaves, InOnePart, InTwoParts, AreImages, BeginsFrom, InitLeaves, HoldsOneOf}

-- the images of the disk at the place and of the other disk, as those of disk one and disk two
abbrev pub As : Place → (List ℕ → List ℕ → Type 0) → List ℕ → List ℕ → Type 0
As One P own rest = P own rest
As Two P own rest = P rest own

module _ {D : Type 0} (g : disk.Ghosts D) (at_now : (d : D) (image : List ℕ) → g.left_since d (g.moment d) image → g.may_leave d image) where
  -- a disk on which nothing is pending has the one image that it reads as
  still : (d e : D) (Q : List ℕ → Type 0) → Only (g.seen d) (g.may_leave d) → e ≡ d → Q (g.seen d) → (image : List ℕ) → g.left_since e (g.moment d) image → Q image
  still d e Q only same has image left =
      subst Q (sym (only image (at_now d image (subst (λ (c : D). g.left_since c (g.moment d) image) same left)))) has

  -- a disk that isn't called has no later images
  no_later : (d e : D) (Q : List ℕ → Type 0) → e ≡ d → (t : ℕ) (image : List ℕ) → g.left_since e t image → g.left_since d t image ⊎ Q image
  no_later d e Q same t image left = inl (subst (λ (c : D). g.left_since c t image) same left)

  unmoved : (d e : D) → e ≡ d → g.moment d ≤ g.moment e
  unmoved d e same = subst (λ (c : D). g.moment d ≤ g.moment c) (sym same) (omega arith)

  module _ (one two one_mid two_mid : D) (first_one : LeavesOnly g one one_mid (g.may_leave one)) (first_two : LeavesOnly g two two_mid (g.may_leave two)) where
    module _ (one_new two_new : D) (P : List ℕ → List ℕ → Type 0) (Q : List ℕ → Type 0) where
      -- the second part writes disk one alone
      pub then_one : Only (g.seen two_mid) (g.may_leave two_mid) → two_new ≡ two_mid → LeavesOnly g one_mid one_new Q → ((a : List ℕ) → Q a → P a (g.seen two_mid))
          → InTwoParts g one two one_new two_new P
      then_one only same run has =
          let beside : (a : List ℕ) → Q a → (b : List ℕ) → g.left_since two_new (g.moment two_mid) b → P a b
          = λ a q. still two_mid two_new (P a) only same (has a q) in
          record {
            one_between = one_mid;
            two_between = two_mid;
            first_one = first_one;
            first_two = first_two;
            later_one = run.later;
            later_two = unmoved two_mid two_new same;
            pairs = λ a b left. beside a (run.each a left) b;
            since_one = λ t a le left. ⊎_elim (λ was. inl was) (λ q. inr (beside a q)) (run.before t a le left);
            since_two = λ t b le left. no_later two_mid two_new (λ c. (a : List ℕ) → g.left_since one_new (g.moment one_mid) a → P a c) same t b left;
          }

      -- or disk two
      pub then_two : Only (g.seen one_mid) (g.may_leave one_mid) → one_new ≡ one_mid → LeavesOnly g two_mid two_new Q → ((b : List ℕ) → Q b → P (g.seen one_mid) b)
          → InTwoParts g one two one_new two_new P
      then_two only same run has =
          let beside : (b : List ℕ) → Q b → (a : List ℕ) → g.left_since one_new (g.moment one_mid) a → P a b
          = λ b q. still one_mid one_new (λ a. P a b) only same (has b q) in
          record {
            one_between = one_mid;
            two_between = two_mid;
            first_one = first_one;
            first_two = first_two;
            later_one = unmoved one_mid one_new same;
            later_two = run.later;
            pairs = λ a b left there. beside b (run.each b there) a left;
            since_one = λ t a le left. no_later one_mid one_new (λ c. (b : List ℕ) → g.left_since two_new (g.moment two_mid) b → P c b) same t a left;
            since_two = λ t b le left. ⊎_elim (λ was. inl was) (λ q. inr (beside b q)) (run.before t b le left);
          }

    -- nothing is written
    pub then_none : (first second : List ℕ) → g.seen one_mid ≡ first → g.seen two_mid ≡ second
        → Only (g.seen one_mid) (g.may_leave one_mid) → Only (g.seen two_mid) (g.may_leave two_mid) → InTwoParts g one two one_mid two_mid (AreImages first second)
    then_none first second seen_one seen_two durable_one durable_two = record {
      one_between = one_mid;
      two_between = two_mid;
      first_one = first_one;
      first_two = first_two;
      later_one = omega arith;
      later_two = omega arith;
      pairs = λ a b left there. (durable_one a (at_now one_mid a left) ∙ seen_one, durable_two b (at_now two_mid b there) ∙ seen_two);
      since_one = λ t a le left. inl left;
      since_two = λ t b le left. inl left;
    }

    -- the same of a call that reads the disks to the end where it answers
    pub where_read : {T E : Type 0} (result : Result T E) (first second : List ℕ) → g.seen one_mid ≡ first → g.seen two_mid ≡ second
        → OnOk result (Only (g.seen one_mid) (g.may_leave one_mid)) → OnOk result (Only (g.seen two_mid) (g.may_leave two_mid))
        → OnOk result (InTwoParts g one two one_mid two_mid (AreImages first second))
    where_read (Ok answer) first second seen_one seen_two durable_one durable_two = then_none first second seen_one seen_two durable_one durable_two
    where_read (Err error) first second seen_one seen_two durable_one durable_two = tt

    module _ (durable_one : Only (g.seen one_mid) (g.may_leave one_mid)) (durable_two : Only (g.seen two_mid) (g.may_leave two_mid)) where
      module _ (one_new two_new : D) (P : List ℕ → List ℕ → Type 0) where
        -- the disk at the place is written alone
        pub then_own : (place : Place) (Q : List ℕ → Type 0) → other place one_new two_new ≡ other place one_mid two_mid
            → LeavesOnly g (its place one_mid two_mid) (its place one_new two_new) Q
            → ((image : List ℕ) → Q image → As place P image (g.seen (other place one_mid two_mid))) → InTwoParts g one two one_new two_new P
        then_own One Q same run has = then_one one_new two_new P Q durable_two same run has
        then_own Two Q same run has = then_two one_new two_new P Q durable_one same run has

        -- or the other disk
        pub then_other : (place : Place) (Q : List ℕ → Type 0) → its place one_new two_new ≡ its place one_mid two_mid
            → LeavesOnly g (other place one_mid two_mid) (other place one_new two_new) Q
            → ((image : List ℕ) → Q image → As place P (g.seen (its place one_mid two_mid)) image) → InTwoParts g one two one_new two_new P
        then_other One Q same run has = then_two one_new two_new P Q durable_one same run has
        then_other Two Q same run has = then_one one_new two_new P Q durable_two same run has

      -- a run of writes at the place, after each of which the images hold a world, by a journal, of which Q holds
      pub then_worlds : (place : Place) (Q : World → Journal → Type 0) (one_new two_new : D) → other place one_new two_new ≡ other place one_mid two_mid
          → LeavesOnly g (its place one_mid two_mid) (its place one_new two_new)
          (λ image. (w : World) × (journal : Journal) × Q w journal × HoldsBy place image (g.seen (other place one_mid two_mid)) w journal)
          → InTwoParts g one two one_new two_new (λ a b. (w : World) × (journal : Journal) × Q w journal × HoldsBy place (its place a b) (other place a b) w journal)
      then_worlds place Q one_new two_new same run =
          then_own one_new two_new (λ a b. (w : World) × (journal : Journal) × Q w journal × HoldsBy place (its place a b) (other place a b) w journal) place _ same run
          (λ image. some_of place image (g.seen (other place one_mid two_mid)))
        where
          some_of : (place : Place) (own rest : List ℕ) → ((w : World) × (journal : Journal) × Q w journal × HoldsBy place own rest w journal)
              → As place (λ a b. (w : World) × (journal : Journal) × Q w journal × HoldsBy place (its place a b) (other place a b) w journal) own rest
          some_of One own rest holds = holds
          some_of Two own rest holds = holds

      -- a commit
      pub then_commit : (store : Store) (limits : Limits) (cs : List Change) (one_new two_new : D) → CommitLeaves g store limits cs one_mid two_mid one_new two_new
          → InTwoParts g one two one_new two_new (HoldsOneOf store.world.world (applied store.world.world cs))
      then_commit store limits cs one_new two_new leaves =
          then_own one_new two_new (HoldsOneOf store.world.world (applied store.world.world cs)) store.place (HoldsEither store limits cs (g.seen (other store.place one_mid two_mid)))
          leaves.untouched leaves.each
          (λ image either. one_of store.place image (g.seen (other store.place one_mid two_mid)) (⊎_elim (λ same. inl same.held) (λ more. inr more.2.held) either))
        where
          one_of : (place : Place) (own rest : List ℕ) → HoldsAs place own rest (a_world store.world.world) ⊎ HoldsAs place own rest (a_world (applied store.world.world cs))
              → As place (HoldsOneOf store.world.world (applied store.world.world cs)) own rest
          one_of One own rest holds = holds
          one_of Two own rest holds = holds

      -- a pack
      pub then_pack : (store : Store) (one_new two_new : D) → PackLeaves g store one_mid two_mid one_new two_new
          → InTwoParts g one two one_new two_new (λ a b. (its store.place a b ≡ g.seen (its store.place one_mid two_mid)) × HoldsPacked store (its store.place a b) (other store.place a b))
      then_pack store one_new two_new leaves =
          then_other one_new two_new
          (λ a b. (its store.place a b ≡ g.seen (its store.place one_mid two_mid)) × HoldsPacked store (its store.place a b) (other store.place a b)) store.place
          (HoldsPacked store (g.seen (its store.place one_mid two_mid))) leaves.untouched leaves.each
          (λ image. packed_at store.place (HoldsPacked store) (g.seen (its store.place one_mid two_mid)) image)
        where
          packed_at : (place : Place) (Q : List ℕ → List ℕ → Type 0) (own rest : List ℕ) → Q own rest
              → As place (λ a b. (its place a b ≡ own) × Q (its place a b) (other place a b)) own rest
          packed_at One Q own rest holds = (refl, holds)
          packed_at Two Q own rest holds = (refl, holds)

  -- ---- other words
  -- what has P has R
  pub weaker_parts : (one two one_new two_new : D) (P R : List ℕ → List ℕ → Type 0) → InTwoParts g one two one_new two_new P → ((a b : List ℕ) → P a b → R a b)
      → InTwoParts g one two one_new two_new R
  weaker_parts one two one_new two_new P R parts weaker = record {
    one_between = parts.one_between;
    two_between = parts.two_between;
    first_one = parts.first_one;
    first_two = parts.first_two;
    later_one = parts.later_one;
    later_two = parts.later_two;
    pairs = λ a b left there. weaker a b (parts.pairs a b left there);
    since_one = λ t a le left. ⊎_elim (λ was. inl was) (λ beside. inr (λ b there. weaker a b (beside b there))) (parts.since_one t a le left);
    since_two = λ t b le left. ⊎_elim (λ was. inl was) (λ beside. inr (λ a there. weaker a b (beside a there))) (parts.since_two t b le left);
  }

  module _ (counts : (d : D) (t : ℕ) (image : List ℕ) → t ≤ g.moment d → g.may_leave d image → g.left_since d t image) where
    -- a call that only reads has its middle at its end
    pub one_part : (one two one_new two_new : D) → InOnePart g one two one_new two_new → InTwoParts g one two one_new two_new (λ a b. g.may_leave one a × g.may_leave two b)
    one_part one two one_new two_new part = record {
      one_between = one_new;
      two_between = two_new;
      first_one = part.only_one;
      first_two = part.only_two;
      later_one = omega arith;
      later_two = omega arith;
      pairs = λ a b left there. (
        part.only_one.each a (counts one_new (g.moment one) a part.only_one.later (at_now one_new a left)),
        part.only_two.each b (counts two_new (g.moment two) b part.only_two.later (at_now two_new b there)),
      );
      since_one = λ t a le left. inl left;
      since_two = λ t b le left. inl left;
    }

    -- whatever `init` answers: images that a crash at entry might have left, those that the disks read as, or what comes of none
    abbrev pub OfInit : D → D → List ℕ → List ℕ → Type 0
    OfInit one two a b = (g.may_leave one a × g.may_leave two b) ⊎ (AreImages (g.seen one) (g.seen two) a b ⊎ BeginsFrom (g.seen one) (g.seen two) a b)

    pub init_parts : (result : Result Store StoreError) (one two one_new two_new : D) → InitLeaves g result one two one_new two_new → InTwoParts g one two one_new two_new (OfInit one two)
    init_parts (Ok store) one two one_new two_new parts = weaker_parts one two one_new two_new _ _ parts (λ a b held. inr (inr held))
    init_parts (Err DiskFault) one two one_new two_new (inl part) = weaker_parts one two one_new two_new _ _ (one_part one two one_new two_new part) (λ a b was. inl was)
    init_parts (Err DiskFault) one two one_new two_new (inr parts) = weaker_parts one two one_new two_new _ _ parts (λ a b held. inr (inr held))
    init_parts (Err (Damaged disk at found)) one two one_new two_new part = weaker_parts one two one_new two_new _ _ (one_part one two one_new two_new part) (λ a b was. inl was)
    init_parts (Err (Full what count limit)) one two one_new two_new part = weaker_parts one two one_new two_new _ _ (one_part one two one_new two_new part) (λ a b was. inl was)
    init_parts (Err AlreadyThere) one two one_new two_new parts = weaker_parts one two one_new two_new _ _ parts (λ a b are. inr (inl are))
    init_parts (Err OutOfMemory) one two one_new two_new part = weaker_parts one two one_new two_new _ _ (one_part one two one_new two_new part) (λ a b was. inl was)
