-- What a pack leaves.
use Rattle.std.proofs.Common.{◌≡◌, inl, inr, ℕ, ◌+◌, ◌≤◌, Bool, true, false, List, [], ◌∷◌, length, Ok, refl, sym, ap, subst, arith}
use Rattle.std.specs.Prelude.{◌&&◌}
use Rattle.std.specs.List.{AllByRecursion}
use Rattle.std.proofs.lemmas.Bool.Decides.{nat_tests}
use Rattle.std.proofs.lemmas.List.Elements.{recursion_from_All}
use Rattle.wc_disk.specs.declared.disk.Disk as disk
use Rattle.wc_disk.specs.Steps.{Only}
use Rattle.wc_disk.specs.Images.{LeavesOnly}
use Rattle.wc_disk.proofs.Runs.{weaker_run}
use Rattle.wc_journal.specs.declared.journal.Journal.{Journal}
use Rattle.wc_journal.specs.Reading.{Placed, holds, journal_of, batches_of, end_of, is_snapshot_place}
use Rattle.wc_journal.specs.Journals.{IsSettled, IsClosed, IsReplaced}
use Rattle.wc_record.specs.Reading.{whole}
use Rattle.wc_record.specs.Spelled.{spelled}
use Rattle.wc_world.specs.World.{World, empty}
use Rattle.wc_world.specs.Room.{Holding}
use Rattle.wc_world.specs.Accepted.{IsAccepted, IsReached, is_in_order}
use Rattle.wc_world.specs.Applied.{applied}
use Rattle.wc_world.specs.Consistent.{IsConsistent, Stands}
use Rattle.wc_world.specs.Snapshot.{snapshot}
use Rattle.wc_world.proofs.ReachedWorlds.{reached_is_consistent}
use Rattle.wc_world.proofs.Snapshot.{consistent_snapshot}
use Rattle.wc_world.proofs.SnapshotForm.{ascends, all_known, snapshot_setting}
use Rattle.wc_world.proofs.SnapshotLists.{Ascend, ascend_before}
use Rattle.wc_store.specs.declared.place.Place.{Place}
use Rattle.wc_store.specs.declared.place.Place.TheVariants.{One, Two}
use Rattle.wc_store.specs.Places.{opposite, its}
use Rattle.wc_store.specs.declared.store.Store.{Store}
use Rattle.wc_store.specs.Prepared.{HasGeneration}
use Rattle.wc_store.specs.Stores.{other, StandsFor, PackLeaves, HoldsPacked, IsNextOf}
use Rattle.wc_store.specs.Held.{a_world, suits}
use Rattle.wc_store.proofs.Chosen.{IsBefore, Keeps, held_counted, closed_counted, keeps_named}
use Rattle.wc_store.proofs.Commits.{holds_by, stands_at, keeps_moved}

-- ---- a snapshot suits its place
and_first : (b c : Bool) → (b && c) ≡ true → b ≡ true
and_first true c both = refl
and_first false c both = both

pub snapshot_in_order : (w : World) → IsConsistent w → is_in_order (snapshot w) ≡ true
snapshot_in_order w h =
    let stands : AllByRecursion (Stands w) w.records = recursion_from_All (Stands w) w.records h.records in
    let above : Ascend 0 w.records = ascend_before 0 1 w.records (omega arith) (ascends 1 w.nodes w.records h.numbered) in
    and_first (is_in_order (snapshot w)) _ (snapshot_setting w h.numbered above (all_known w above stands)).snapshot

at_snapshot : (snapshot_place : Bool) (w : World) → snapshot_place ≡ true → IsConsistent w → suits snapshot_place (snapshot w) ≡ true
at_snapshot snapshot_place w is h = subst (λ (s : Bool). suits s (snapshot w) ≡ true) (sym is) (snapshot_in_order w h)

-- ---- the other disk's images
-- one that is closed leaves the world where it is
pub keeps_beside : (place : Place) (v g : ℕ) (bs : Placed) (w : World) (own rest image : List ℕ) → Keeps place v g bs w own rest → IsClosed image → Keeps place v g bs w own image
keeps_beside place v g bs w own rest image keeps closed = record {
  held = keeps.held;
  before = subst (IsBefore g) (sym (closed_counted image closed)) tt;
  some = keeps.some;
  plays = keeps.plays;
}

-- one with the world's snapshot in the next generation is where it is then
pub keeps_packed : (place : Place) (v g : ℕ) (bs : Placed) (w : World) (own rest image : List ℕ) (p : List ℕ) → Keeps place v g bs w own rest → 1 ≤ g → IsReached w
    → whole p (Ok (snapshot w)) → journal_of image ≡ holds 2 (g + 1) ((26, p) ∷ []) → Keeps (opposite place) 2 (g + 1) ((26, p) ∷ []) w image own
keeps_packed place v g bs w own rest image p keeps some reached read held =
    let consistent : IsConsistent w = reached_is_consistent w reached in
    let made : IsAccepted empty (snapshot w) × (applied empty (snapshot w) ≡ w) = consistent_snapshot w consistent in
    let first : is_snapshot_place (g + 1) 0 ≡ true = grind (arith, nat_tests) in
    record {
      held = held;
      before = subst (IsBefore (g + 1)) (sym (held_counted own v g bs keeps.held)) (omega arith);
      some = refl;
      plays = inr (snapshot w, read, inr (at_snapshot (is_snapshot_place (g + 1) 0) w first consistent, made.0, ap (λ (u : World). a_world u) (sym made.1)));
    }

module _ {D : Type 0} (g : disk.Ghosts D) (store : Store) (one two : D)
    (keeps : Keeps store.place store.journal.version store.journal.generation (batches_of (journal_of (g.seen (its store.place one two)))) store.world.world
    (g.seen (its store.place one two)) (g.seen (other store.place one two)))
    (end : store.journal.end ≡ end_of (batches_of (journal_of (g.seen (its store.place one two))))) where
  abbrev Own : List ℕ
  Own = g.seen (its store.place one two)

  abbrev Rest : List ℕ
  Rest = g.seen (other store.place one two)

  abbrev Batches : Placed
  Batches = batches_of (journal_of Own)

  -- the world stays where it is
  stays_by : (image : List ℕ) → Keeps store.place store.journal.version store.journal.generation Batches store.world.world Own image → HoldsPacked store Own image
  stays_by image there = inl (holds_by store.place store.journal Batches store.world.world Own image there end)

  module _ (p : List ℕ) (reached : IsReached store.world.world) (read : whole p (Ok (snapshot store.world.world))) where
    -- the next journal
    abbrev next_journal : Journal
    next_journal = record {
      version = 2;
      generation = store.journal.generation + 1;
      end = 26 + length p;
      is_numbered = omega arith;
      is_some = omega arith;
      is_known = omega arith;
    }

    module _ (payload : p ≡ spelled (snapshot store.world.world)) (room : HasGeneration store.journal.generation store.world.world) where
      is_next : IsNextOf store.journal store.world.world next_journal
      is_next = record { version = refl; generation = refl; end = ap (λ (q : List ℕ). 26 + length q) payload; room = room }

      leaves_world : (image : List ℕ) → IsReplaced Rest (holds 2 (store.journal.generation + 1) ((26, p) ∷ [])) image → HoldsPacked store Own image
      leaves_world image (inl same) =
          stays_by image (subst (λ (i : List ℕ). Keeps store.place store.journal.version store.journal.generation Batches store.world.world Own i) (sym same) keeps)
      leaves_world image (inr (inl closed)) =
          stays_by image (keeps_beside store.place store.journal.version store.journal.generation Batches store.world.world Own Rest image keeps closed)
      leaves_world image (inr (inr held)) =
          inr (
            next_journal,
            is_next,
            holds_by (opposite store.place) next_journal ((26, p) ∷ []) store.world.world image Own
                (keeps_packed store.place store.journal.version store.journal.generation Batches store.world.world Own Rest image p keeps store.journal.is_numbered reached read held) refl,
          )

      pub pack_leaves : (one_new two_new : D) → its store.place one_new two_new ≡ its store.place one two
          → LeavesOnly g (other store.place one two) (other store.place one_new two_new) (IsReplaced Rest (holds 2 (store.journal.generation + 1) ((26, p) ∷ [])))
          → PackLeaves g store one two one_new two_new
      pack_leaves one_new two_new same leaves = record {
        untouched = same;
        each = weaker_run g (other store.place one two) (other store.place one_new two_new) _ _ leaves leaves_world;
      }

    pub keeps_there : (image : List ℕ) → journal_of image ≡ holds 2 (store.journal.generation + 1) ((26, p) ∷ [])
        → Keeps (opposite store.place) 2 (store.journal.generation + 1) (batches_of (journal_of image)) store.world.world image Own
    keeps_there image held =
        keeps_named (opposite store.place) 2 (store.journal.generation + 1) _ store.world.world image Own
        (keeps_packed store.place store.journal.version store.journal.generation Batches store.world.world Own Rest image p keeps store.journal.is_numbered reached read held)

-- a store that has moved to the other disk
module _ {D : Type 0} (g : disk.Ghosts D) where
  pub stands_packed : (place : Place) (world : Holding) (n : ℕ) (journal : Journal) (live : Bool) (one two one_new two_new : D)
      → Keeps (opposite place) 2 n (batches_of (journal_of (g.seen (other place one_new two_new)))) world.world (g.seen (other place one_new two_new)) (g.seen (its place one two))
      → its place one_new two_new ≡ its place one two → Only (g.seen (its place one two)) (g.may_leave (its place one two))
      → IsSettled g journal (other place one_new two_new) → journal.version ≡ 2 → journal.generation ≡ n
      → StandsFor g (record { world = world; journal = journal; place = opposite place; live = live }) one_new two_new
  stands_packed One world n journal live one two one_new two_new keeps same only settled version generation =
      stands_at g Two world journal live one_new two_new settled.durable (subst (λ (d : D). Only (g.seen d) (g.may_leave d)) (sym same) only) settled
      (keeps_moved Two 2 journal.version n journal.generation _ world.world world.world (g.seen two_new) (g.seen one) (g.seen one_new) (sym version) (sym generation) refl (ap g.seen (sym same)) keeps)
  stands_packed Two world n journal live one two one_new two_new keeps same only settled version generation =
      stands_at g One world journal live one_new two_new settled.durable (subst (λ (d : D). Only (g.seen d) (g.may_leave d)) (sym same) only) settled
      (keeps_moved One 2 journal.version n journal.generation _ world.world world.world (g.seen one_new) (g.seen two) (g.seen two_new) (sym version) (sym generation) refl (ap g.seen (sym same)) keeps)
