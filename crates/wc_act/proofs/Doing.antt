-- What was done to a store, as the reply to a command.
use Rattle.std.proofs.Common.{◌≡◌, inl, inr, ◌+◌, ℕ, List, Some, None, Result, Ok, Err, IfOk, Bool, IsTrue, refl, sym, ap, subst, ◌∙◌}
use Rattle.wc_disk.specs.declared.disk.Disk as disk
use Rattle.wc_state.specs.declared.record.What.{What}
use Rattle.wc_world.specs.World.{World, empty}
use Rattle.wc_store.specs.declared.error.StoreError.{StoreError}
use Rattle.wc_store.specs.declared.error.StoreError.TheVariants as error
use Rattle.wc_store.specs.declared.store.Store.{Store}
use Rattle.wc_store.specs.Held.{Standing, IsHeld, HoldsAWorld, nothing, damage, a_world}
use Rattle.wc_store.specs.declared.place.Place.TheVariants.{One}
use Rattle.wc_store.specs.Prepared.{HasGeneration}
use Rattle.wc_store.specs.Refusals.{RefusesLoad, RefusesPack, RefusesInit, IsUnchanged}
use Rattle.wc_store.specs.Sights.{OfImages}
use Rattle.wc_store.specs.Stores.{StandsFor, HasImages, IsLoadedOf}
use Rattle.wc_report.specs.Lines.{initialised_text, packed_text}
use Rattle.wc_plan.specs.declared.deed.Begin.TheVariants as begin
use Rattle.wc_plan.specs.declared.deed.Deed.TheVariants as deed
use Rattle.wc_plan.specs.declared.reply.Reply.{Reply}
use Rattle.wc_plan.specs.declared.status.Cause.TheVariants as cause
use Rattle.wc_plan.specs.declared.deed.Work.{Work}
use Rattle.wc_act.specs.Owed.{visit, Done, DoneOn, OfVisit, OwedDeed}
use Rattle.wc_act.specs.Rows.{row, work_row, pack_row}
use Rattle.wc_plan.specs.Replies.{refuses, prints}
use Rattle.wc_act.specs.StoreDeeds.{Images, Hold, is_damaged, is_full, AtStore}
use Rattle.wc_act.specs.Opened.{store_reply, TellsAt, HasNoWorld, HasOpened}
use Rattle.wc_act.proofs.Visiting.{AreOfNew, AreOfPack, AreStill, are_read, are_still, journal_of_images, visit_as}

pub some_is : (r s : Reply) → Some r ≡ Some s → r ≡ s
some_is r s h = cc

-- a command is told that there is no world
told_at : (before : Images) (does : World → Images → Reply → Type 0) (s : Standing) (after : Images) (r : Reply) → after ≡ before → TellsAt s r → AtStore before does s after r
told_at before does nothing after r still tells = (still, tells)
told_at before does (damage disk at found) after r still tells = (still, tells)
told_at before does (a_world w) after r still tells = absurd tells

pub no_world : (work : Work) (r : Reply) (before after : Images) → HasNoWorld before after r → Done (row (deed.Work work)) r before after
no_world work r before after h = (h.standing, h.held, told_at before ((work_row work).does before) h.standing after r h.still h.tells)

module _ {D : Type 0} (g : disk.Ghosts D) where
  -- the disks read as before, and held the store's world then
  pub held_before : (store : Store) (one two one_mid two_mid : D) → HasOpened g store one two one_mid two_mid → Hold (g.seen one, g.seen two) (a_world store.world.world)
  held_before store one two one_mid two_mid o =
      subst (λ (x : List ℕ). IsHeld (g.seen one) x (a_world store.world.world)) o.seen_two
      (subst (λ (x : List ℕ). IsHeld x (g.seen two_mid) (a_world store.world.world)) o.seen_one o.stands.held)

  -- what was done on a store that was opened
  pub goes_does : {E : Type 0} (work : Work) (store : Store) (one two one_mid two_mid one_new two_new : D) (result : Result Reply E)
      → (IsTrue (g.tells one) → IsTrue (g.tells two) → HasOpened g store one two one_mid two_mid)
      → g.tells one_mid ≡ g.tells one → g.tells two_mid ≡ g.tells two
      → IfOk result (λ r. OfVisit (visit g one_mid two_mid one_new two_new) (DoneOn (work_row work) store.world.world r))
      → IfOk result (λ r. OwedDeed (visit g one two one_new two_new) (deed.Work work) r)
  goes_does work store one two one_mid two_mid one_new two_new (Err e) o tells tells_too done = done
  goes_does work store one two one_mid two_mid one_new two_new (Ok r) o tells tells_too done = record {
    before = done.before;
    after = done.after;
    told = λ told told_too.
        let opened = o told told_too in
        let same = done.told (subst (λ (b : Bool). IsTrue b) (sym tells) told) (subst (λ (b : Bool). IsTrue b) (sym tells_too) told_too) in
        (same.0 ∙ (λ i. (opened.seen_one i, opened.seen_two i)), same.1);
    are = (a_world store.world.world, done.are.0, done.are.1);
  }

-- ---- pack

-- a new generation
pub has_packed : (store new : Store) (generation : ℕ) (r : Reply) → HasGeneration store.journal.generation store.world.world → new.world.world ≡ store.world.world
    → generation ≡ store.journal.generation + 1 → new.journal.generation ≡ generation → r ≡ prints (packed_text generation)
    → (before after : Images) → AreOfPack store new before after → DoneOn pack_row store.world.world r before after
has_packed store new generation r fits same more is reply before after are = (
  are.was.held,
  (
    subst (λ (w : World). Hold after (a_world w)) same are.is.held,
    (
      store.journal,
      journal_of_images store before are.was,
      inl (record {
        fits = fits;
        still = are.still;
        written = are.written;
        next = new.journal;
        kept = journal_of_images new after are.is;
        generation = is ∙ more;
        reply = reply ∙ ap (λ (n : ℕ). prints (packed_text n)) (sym is);
      }),
    ),
  ),
)

-- a pack that is refused
full_pack : (store : Store) (what : What) (count limit : ℕ) (r : Reply) → RefusesPack store.journal.generation store.world.world (error.Full what count limit)
    → is_full what count limit ≡ r → (before after : Images) → AreStill store before after → DoneOn pack_row store.world.world r before after
full_pack store what count limit r refused reply before after (same, is) = (
  is.held,
  (
    subst (λ (images : Images). Hold images (a_world store.world.world)) (sym same) is.held,
    (
      store.journal,
      journal_of_images store before is,
      inr (same, record { what = what; count = count; limit = limit; refused = refused; reply = sym reply }),
    ),
  ),
)

module _ {D : Type 0} (g : disk.Ghosts D) where
  pub refused_pack : (T : Type 0) {E : Type 0} (store : Store) (e : StoreError) (one two one_new two_new : D) (result : Result Reply E)
      → (IsTrue (g.tells one) → IsTrue (g.tells two) → StandsFor g store one two) → HasImages store
      → RefusesPack store.journal.generation store.world.world e → IsUnchanged {T = T} (Err e) one one_new → IsUnchanged {T = T} (Err e) two two_new
      → IfOk result (λ r. store_reply e ≡ Some r)
      → IfOk result (λ r. OfVisit (visit g one two one_new two_new) (DoneOn pack_row store.world.world r))
  refused_pack T store e one two one_new two_new (Err x) stands images refused same same_too reply = reply
  refused_pack T store error.DiskFault one two one_new two_new (Ok r) stands images refused same same_too reply = absurd (cc)
  refused_pack T store (error.Damaged disk at found) one two one_new two_new (Ok r) stands images refused same same_too reply = absurd refused
  refused_pack T store (error.Full what count limit) one two one_new two_new (Ok r) stands images refused same same_too reply =
      visit_as (visit g one two one_new two_new) (AreStill store) (DoneOn pack_row store.world.world r)
      (full_pack store what count limit r refused (some_is (is_full what count limit) r reply))
      (are_still g one two one_new two_new store stands images same same_too)
  refused_pack T store error.AlreadyThere one two one_new two_new (Ok r) stands images refused same same_too reply = absurd refused
  refused_pack T store error.OutOfMemory one two one_new two_new (Ok r) stands images refused same same_too reply = absurd (cc)

  -- ---- a store that is opened

  pub opened_none : (one two one_new two_new : D) (r : Reply) → OfImages g one two (IsLoadedOf None) → g.seen one_new ≡ g.seen one → g.seen two_new ≡ g.seen two
      → r ≡ refuses cause.NoStore → OfVisit (visit g one two one_new two_new) (λ before after. HasNoWorld before after r)
  opened_none one two one_new two_new r images same same_too reply =
      visit_as (visit g one two one_new two_new) (λ before after. (after ≡ before) × Hold before nothing) (λ before after. HasNoWorld before after r)
      (λ before after h. record { standing = nothing; held = h.1; still = h.0; tells = reply })
      (are_read g one two one_new two_new (λ a b. IsHeld a b nothing) images (λ told told_too. (same, same_too)))

  pub opened_refused : (one two one_new two_new : D) (e : StoreError) (r : Reply) → RefusesLoad g one two e
      → g.seen one_new ≡ g.seen one → g.seen two_new ≡ g.seen two → store_reply e ≡ Some r
      → OfVisit (visit g one two one_new two_new) (λ before after. HasNoWorld before after r)
  opened_refused one two one_new two_new error.DiskFault r refused same same_too reply = absurd (cc)
  opened_refused one two one_new two_new (error.Damaged number at found) r refused same same_too reply =
      visit_as (visit g one two one_new two_new) (λ before after. (after ≡ before) × Hold before (damage number at found)) (λ before after. HasNoWorld before after r)
      (λ before after h. record { standing = damage number at found; held = h.1; still = h.0; tells = sym (some_is (is_damaged number at found) r reply) })
      (are_read g one two one_new two_new (λ a b. IsHeld a b (damage number at found)) refused (λ told told_too. (same, same_too)))
  opened_refused one two one_new two_new (error.Full what count limit) r refused same same_too reply = absurd refused
  opened_refused one two one_new two_new error.AlreadyThere r refused same same_too reply = absurd refused
  opened_refused one two one_new two_new error.OutOfMemory r refused same same_too reply = absurd (cc)

-- ---- init

pub has_begun : (store : Store) (r : Reply) → store.world.world ≡ empty → (store.place ≡ One) × (store.journal.generation ≡ 1) × (store.journal.version ≡ 2)
    → r ≡ prints initialised_text → (before after : Images) → AreOfNew store before after → Done (row (deed.Begin begin.Init)) r before after
has_begun store r bare made reply before after are = (
  nothing,
  are.bare,
  (
    record {
      held = subst (λ (w : World). Hold after (a_world w)) bare are.is.held;
      journal = store.journal;
      kept = journal_of_images store after are.is;
      place = made.0;
      version = made.2;
      generation = made.1;
    },
    are.rest,
    reply,
  ),
)

module _ {D : Type 0} (g : disk.Ghosts D) where
  pub refused_init : {E : Type 0} (e : StoreError) (one two one_new two_new : D) (result : Result Reply E)
      → RefusesInit g one two e → IsUnchanged {T = Store} (Err e) (g.seen one) (g.seen one_new) → g.seen two_new ≡ g.seen two
      → IfOk result (λ r. store_reply e ≡ Some r) → IfOk result (λ r. OwedDeed (visit g one two one_new two_new) (deed.Begin begin.Init) r)
  refused_init e one two one_new two_new (Err x) refused same same_too reply = reply
  refused_init error.DiskFault one two one_new two_new (Ok r) refused same same_too reply = absurd (cc)
  refused_init (error.Damaged number at found) one two one_new two_new (Ok r) refused same same_too reply =
      visit_as (visit g one two one_new two_new) (λ before after. (after ≡ before) × Hold before (damage number at found)) (Done (row (deed.Begin begin.Init)) r)
      (λ before after h. (damage number at found, h.1, (h.0, sym (some_is (is_damaged number at found) r reply))))
      (are_read g one two one_new two_new (λ a b. IsHeld a b (damage number at found)) refused (λ told told_too. (same, same_too)))
  refused_init (error.Full what count limit) one two one_new two_new (Ok r) refused same same_too reply = absurd refused
  refused_init error.AlreadyThere one two one_new two_new (Ok r) refused same same_too reply =
      visit_as (visit g one two one_new two_new) (λ before after. (after ≡ before) × HoldsAWorld before.0 before.1) (Done (row (deed.Begin begin.Init)) r)
      (λ before after h. (a_world h.1.0, h.1.1, (h.0, sym (some_is (refuses cause.StoreExists) r reply))))
      (are_read g one two one_new two_new HoldsAWorld refused (λ told told_too. (same, same_too)))
  refused_init error.OutOfMemory one two one_new two_new (Ok r) refused same same_too reply = absurd (cc)
