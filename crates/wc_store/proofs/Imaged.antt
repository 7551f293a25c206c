-- What images hold a store once it is made, changed or packed.
use Rattle.std.proofs.Common.{◌≡◌, ℕ, ◌+◌, ◌^◌, ◌<◌, ◌≤◌, Bool, true, false, List, [], ◌∷◌, ◌++◌, length, Ok, refl, sym, ◌∙◌, ap, subst, arith}
use Rattle.wc_journal.specs.declared.journal.Journal.{Journal}
use Rattle.wc_journal.specs.Reading.{Placed, end_from, end_of, size_of}
use Rattle.wc_journal.specs.Refusals.{size_after}
use Rattle.wc_journal.specs.Frame.{heading, framed, most_of}
use Rattle.wc_journal.specs.Journals.{IsJournalOf}
use Rattle.wc_journal.proofs.Growing.{grown, grown_holds}
use Rattle.wc_journal.proofs.Writing.{headed_empty, headed_one, one_spelled}
use Rattle.wc_journal.specs.Spelled as spelling
use Rattle.wc_record.specs.Reading.{whole}
use Rattle.wc_record.specs.Spelled.{spelled}
use Rattle.wc_world.specs.declared.change.Change.{Change}
use Rattle.wc_world.specs.World.{empty}
use Rattle.wc_world.specs.Room.{Holding}
use Rattle.wc_world.specs.Applied.{applied}
use Rattle.wc_world.specs.Accepted.{IsAccepted, IsReached}
use Rattle.wc_world.specs.Snapshot.{snapshot}
use Rattle.wc_store.specs.declared.store.Store.{Store}
use Rattle.wc_store.specs.declared.place.Place.{Place}
use Rattle.wc_store.specs.declared.place.Place.TheVariants.{One, Two}
use Rattle.wc_store.specs.Places.{opposite, its}
use Rattle.wc_store.specs.Stores.{other, IsOfImages, HoldsNext, LeadsTo, IsPackedTo, PacksTo, IsMadeOf}
use Rattle.wc_store.specs.Choices.{no_store, chosen, journal_in}
use Rattle.wc_store.specs.Held.{is_plain}
use Rattle.wc_store.proofs.Chosen.{IsBefore, Keeps, keeps_from, keeps_chosen, keeps_held}
use Rattle.wc_store.proofs.Commits.{keeps_more, keeps_moved, no_snapshot}
use Rattle.wc_store.proofs.Packs.{keeps_packed}
use Rattle.wc_store.proofs.Made.{holds_nothing, second_counts}

-- ---- a store that keeps its world in an image, beside another one
kept_in : (place : Place) (world : Holding) (journal : Journal) (live : Bool) (bs : Placed) (one two : List ℕ)
    → Keeps place journal.version journal.generation bs world.world (its place one two) (other place one two) → journal.end ≡ end_of bs
    → IsOfImages (record { world = world; journal = journal; place = place; live = live }) one two
kept_in place world journal live bs one two keeps end = record {
  batches = bs;
  chooses = keeps_chosen place journal.version journal.generation bs world.world one two keeps;
  held = keeps_held place journal.version journal.generation bs world.world one two keeps;
  end = end;
}

-- two images, of which this one keeps it, beside this one of the other disk
pub record AreKept (store : Store) (own rest : List ℕ) : Type 0 where
  pub one : List ℕ
  pub two : List ℕ
  pub its_own : its store.place one two ≡ own
  pub the_rest : other store.place one two ≡ rest
  pub are : IsOfImages store one two

are_kept : (place : Place) (world : Holding) (journal : Journal) (live : Bool) (bs : Placed) (own rest : List ℕ)
    → Keeps place journal.version journal.generation bs world.world own rest → journal.end ≡ end_of bs
    → AreKept (record { world = world; journal = journal; place = place; live = live }) own rest
are_kept One world journal live bs own rest keeps end = record { one = own; two = rest; its_own = refl; the_rest = refl; are = kept_in One world journal live bs own rest keeps end }
are_kept Two world journal live bs own rest keeps end = record { one = rest; two = own; its_own = refl; the_rest = refl; are = kept_in Two world journal live bs rest own keeps end }

-- the other disk than the opposite one is the one at the place
its_opposite : (place : Place) (one two : List ℕ) → other (opposite place) one two ≡ its place one two
its_opposite One one two = refl
its_opposite Two one two = refl

other_opposite : (place : Place) (one two : List ℕ) → its (opposite place) one two ≡ other place one two
other_opposite One one two = refl
other_opposite Two one two = refl

-- ---- an image keeps its world
module _ (store : Store) (one two : List ℕ) (o : IsOfImages store one two) where
  abbrev Own : List ℕ
  Own = its store.place one two

  abbrev Rest : List ℕ
  Rest = other store.place one two

  keeps : Keeps store.place store.journal.version store.journal.generation o.batches store.world.world Own Rest
  keeps = keeps_from store.place store.journal.version store.journal.generation o.batches store.world.world one two o.chooses o.held

  journal_kept : IsJournalOf store.journal o.batches Own
  journal_kept = record { held = keeps.held; end = o.end }

  -- a store on the same disk, beside the same image of the other one
  led : (world : Holding) (journal : Journal) (live : Bool) (own : List ℕ) → AreKept (record { world = world; journal = journal; place = store.place; live = live }) own Rest
      → HoldsNext store (record { world = world; journal = journal; place = store.place; live = live }) one two
  led world journal live own kept = record { one_new = kept.one; two_new = kept.two; rest = kept.the_rest; are = kept.are }

  -- the same world by the same journal
  same_kept : (world : Holding) (journal : Journal) (live : Bool) → world.world ≡ store.world.world → journal.version ≡ store.journal.version
      → journal.generation ≡ store.journal.generation → journal.end ≡ store.journal.end
      → HoldsNext store (record { world = world; journal = journal; place = store.place; live = live }) one two
  same_kept world journal live same version generation end =
      led world journal live Own
      (are_kept store.place world journal live o.batches Own Rest
      (keeps_moved store.place _ _ _ _ _ _ _ _ _ _ (sym version) (sym generation) (sym same) refl keeps) (end ∙ o.end))

  -- one batch more
  more_kept : (cs : List Change) (p : List ℕ) (world : Holding) (journal : Journal) (live : Bool) → whole p (Ok cs) → is_plain cs ≡ true
      → IsAccepted store.world.world cs → length p ≤ most_of store.journal.version → world.world ≡ applied store.world.world cs
      → journal.version ≡ store.journal.version → journal.generation ≡ store.journal.generation
      → journal.end + 1 ≡ size_after store.journal.end store.journal.version p
      → HoldsNext store (record { world = world; journal = journal; place = store.place; live = live }) one two
  more_kept cs p world journal live read plain accepted fits same version generation longer =
      let at : ℕ = store.journal.end + 1 + size_of store.journal.version in
      let image : List ℕ = grown store.journal o.batches Own journal_kept false p in
      let held = grown_holds store.journal o.batches Own journal_kept false p (sym (no_snapshot store.journal.generation o.batches keeps.some)) fits in
      let after = keeps_more store.place store.journal.version store.journal.generation o.batches store.world.world Own image Rest at p cs keeps read plain accepted held in
      let end : journal.end ≡ end_of (o.batches ++ (at, p) ∷ []) = omega (arith, longer, end_push 16 o.batches (at, p)) in
      led world journal live image
      (are_kept store.place world journal live (o.batches ++ (at, p) ∷ []) image Rest
      (keeps_moved store.place _ _ _ _ _ _ _ _ _ _ (sym version) (sym generation) (sym same) refl after) end)
    where
      end_push : (at : ℕ) (bs : Placed) (b : ℕ × List ℕ) → end_from at (bs ++ b ∷ []) ≡ b.0 + length b.1
      end_push at [] b = refl
      end_push at (c ∷ bs) b = end_push (c.0 + length c.1) bs b

  -- the world's snapshot in the next generation, on the other disk
  packed_kept : (p : List ℕ) (world : Holding) (journal : Journal) (live : Bool) → p ≡ spelled (snapshot store.world.world) → whole p (Ok (snapshot store.world.world))
      → IsReached store.world.world → length p ≤ most_of 2 → store.journal.generation + 1 < 2 ^ 64 → world.world ≡ store.world.world → journal.version ≡ 2
      → journal.generation ≡ store.journal.generation + 1 → journal.end ≡ 26 + length p
      → IsPackedTo store (record { world = world; journal = journal; place = opposite store.place; live = live }) one two
  packed_kept p world journal live is read reached fits few same version generation end =
      let some : 1 ≤ store.journal.generation = store.journal.is_numbered in
      let image : List ℕ = 0x57 ∷ (heading 2 (store.journal.generation + 1) ++ 1 ∷ framed 2 true p) in
      let held = headed_one (store.journal.generation + 1) p (omega arith) few fits in
      let after = keeps_packed store.place store.journal.version store.journal.generation o.batches store.world.world Own Rest image p keeps some reached read held in
      let kept = are_kept (opposite store.place) world journal live ((26, p) ∷ []) image Own
      (keeps_moved (opposite store.place) _ _ _ _ _ _ _ _ _ _ (sym version) (sym generation) (sym same) refl after) end in
      record {
        one_new = kept.one;
        two_new = kept.two;
        still = sym (its_opposite store.place kept.one kept.two) ∙ kept.the_rest;
        written = sym (other_opposite store.place kept.one kept.two) ∙ kept.its_own ∙ one_spelled (store.journal.generation + 1) p (omega (arith, some))
            ∙ ap (λ (q : List ℕ). spelling.spelled 2 (store.journal.generation + 1) (q ∷ []) ++ 0 ∷ []) is;
        are = kept.are;
      }

-- ---- what the calls make of a store that images hold
pub images_same : (store : Store) (world : Holding) (journal : Journal) (live : Bool) → world.world ≡ store.world.world → journal.version ≡ store.journal.version
    → journal.generation ≡ store.journal.generation → journal.end ≡ store.journal.end
    → LeadsTo store (record { world = world; journal = journal; place = store.place; live = live })
images_same store world journal live same version generation end =
    λ one two o. same_kept store one two o world journal live same version generation end

pub images_more : (store : Store) (cs : List Change) (p : List ℕ) (world : Holding) (journal : Journal) (live : Bool) → whole p (Ok cs) → is_plain cs ≡ true
    → IsAccepted store.world.world cs → length p ≤ most_of store.journal.version → world.world ≡ applied store.world.world cs
    → journal.version ≡ store.journal.version → journal.generation ≡ store.journal.generation
    → journal.end + 1 ≡ size_after store.journal.end store.journal.version p
    → LeadsTo store (record { world = world; journal = journal; place = store.place; live = live })
images_more store cs p world journal live read plain accepted fits same version generation longer =
    λ one two o. more_kept store one two o cs p world journal live read plain accepted fits same version generation longer

pub images_packed : (store : Store) (p : List ℕ) (world : Holding) (journal : Journal) (live : Bool) → p ≡ spelled (snapshot store.world.world)
    → whole p (Ok (snapshot store.world.world)) → IsReached store.world.world → length p ≤ most_of 2 → store.journal.generation + 1 < 2 ^ 64
    → world.world ≡ store.world.world → journal.version ≡ 2 → journal.generation ≡ store.journal.generation + 1 → journal.end ≡ 26 + length p
    → PacksTo store (record { world = world; journal = journal; place = opposite store.place; live = live })
images_packed store p world journal live is read reached fits few same version generation end =
    λ one two o. packed_kept store one two o p world journal live is read reached fits few same version generation end

-- an empty store on disk one, beside a disk that counts as one without a journal
pub images_made : (one two : List ℕ) (world : Holding) (journal : Journal) (live : Bool) → chosen one two ≡ no_store → world.world ≡ empty → journal.version ≡ 2
    → journal.generation ≡ 1 → journal.end ≡ 16 → IsMadeOf (record { world = world; journal = journal; place = One; live = live }) one two
images_made one two world journal live none bare version generation end =
    let image : List ℕ = 0x57 ∷ (heading 2 1 ++ 0 ∷ []) in
    let before : IsBefore 1 (journal_in two) = subst (IsBefore 1) (sym (second_counts one two none)) tt in
    let made : Keeps One 2 1 [] empty image two = record { held = headed_empty 1 (omega arith) (omega arith); before = before; some = refl; plays = refl } in (
      holds_nothing one two none,
      (image, kept_in One world journal live [] image two (keeps_moved One _ _ _ _ _ _ _ _ _ _ (sym version) (sym generation) (sym bare) refl made) end),
    )
