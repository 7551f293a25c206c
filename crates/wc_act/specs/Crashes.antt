-- What a crash leaves of a store, and what each call of the program keeps.
use Rattle.std.specs.Prelude.{◌≡◌, ◌⊎◌, ℕ, IsTrue, List, Option}
use Rattle.wc_disk.specs.declared.disk.Disk as disk
use Rattle.wc_disk.specs.Images.{LeavesOnly}
use Rattle.wc_disk.specs.Steps.{Only}
use Rattle.wc_journal.specs.declared.journal.Journal.{Journal}
use Rattle.wc_world.specs.World.{World, empty}
use Rattle.wc_machine.specs.Sound.{IsSound}
use Rattle.wc_drill.specs.Runner.Laws.{StaysSound}
use Rattle.wc_store.specs.Held.{Standing, IsHeld, nothing, a_world}
use Rattle.wc_store.specs.Stores.{InTwoParts}
use Rattle.wc_store.specs.declared.place.Place.TheVariants.{One}
use Rattle.wc_cli.specs.Words.{command_of}
use Rattle.wc_plan.specs.declared.deed.Deed.{Deed}
use Rattle.wc_plan.specs.declared.deed.Plan.TheVariants as plan
use Rattle.wc_plan.specs.declared.status.Fault.{Fault}
use Rattle.wc_plan.specs.declared.status.Status.{Status}
use Rattle.wc_plan.specs.declared.status.Status.TheVariants as status
use Rattle.wc_act.specs.Exchanges.{Exchange}
use Rattle.wc_act.specs.Owed.{OfSome}
use Rattle.wc_plan.specs.Plans.{Plans}
use Rattle.wc_plan.specs.Replies.{Writes}
use Rattle.wc_act.specs.Rows.{row}
use Rattle.wc_act.specs.StoreDeeds.{HasJournal, Images}

-- ---- what images hold

-- the images hold nothing, or a sound world
abbrev pub HoldsSound : List ℕ → List ℕ → Type 0
HoldsSound a b = IsHeld a b nothing ⊎ ((w : World) × IsHeld a b (a_world w) × IsSound w)

-- each pair of images that a crash now may leave has P
abbrev pub EachPair : {D : Type 0} → disk.Ghosts D → D → D → (List ℕ → List ℕ → Type 0) → Type 0
EachPair g one two P = (a b : List ℕ) → g.may_leave one a → g.may_leave two b → P a b

-- the pair holds what the disks read as
abbrev pub HoldsTheSame : {D : Type 0} → disk.Ghosts D → D → D → List ℕ → List ℕ → Type 0
HoldsTheSame g one two a b = (s : Standing) → IsHeld (g.seen one) (g.seen two) s → IsHeld a b s

-- nothing is pending on either disk
pub record AreDurable {D : Type 0} (g : disk.Ghosts D) (one two : D) : Type 0 where
  pub durable_one : Only (g.seen one) (g.may_leave one)
  pub durable_two : Only (g.seen two) (g.may_leave two)

-- ---- what calls keep

-- where the earlier world is sound, so is the later one, and it has all that the earlier one had
abbrev pub Keeps : World → World → Type 0
Keeps w v = IsSound w → StaysSound w v

-- the pair holds a world that the call may make of this one, from such images in these, and that keeps it
abbrev pub HoldsKeeping : (Images → World → World → Images → Type 0) → Images → World → List ℕ → List ℕ → Type 0
HoldsKeeping makes before w a b = (v : World) × IsHeld a b (a_world v) × makes before w v (a, b) × Keeps w v

-- The pair holds a world with which the call may begin a store, by a journal on disk one. It is sound and continues the empty one.
pub record HoldsBegun (begins : World → Journal → Type 0) (a b : List ℕ) : Type 0 where
  pub world : World
  pub held : IsHeld a b (a_world world)
  pub journal : Journal
  pub kept : HasJournal (a, b) journal
  pub place : kept.place ≡ One
  pub begun : begins world journal
  pub sound : StaysSound empty world

-- What comes of two images that hold nothing in a call that may begin a store with the worlds that `begins` says, of which there are some:
-- nothing, or such a world.
pub record ComesOfNothing (begins : World → Journal → Type 0) (one two a b : List ℕ) : Type 0 where
  pub before : IsHeld one two nothing
  pub some : (v : World) × (journal : Journal) × begins v journal
  pub held : IsHeld a b nothing ⊎ HoldsBegun begins a b

-- What comes of two images in a call that begins a store with no other worlds and journals than `begins` says, and makes of a world only what `makes`
-- says: where they hold nothing, nothing, or a world with which it begins; where they hold a world, one that it makes of that and that keeps it.
abbrev pub ComesOf : (begins : World → Journal → Type 0) → (makes : Images → World → World → Images → Type 0) → (one two a b : List ℕ) → Type 0
ComesOf begins makes one two a b = ComesOfNothing begins one two a b ⊎ ((w : World) × IsHeld one two (a_world w) × HoldsKeeping makes (one, two) w a b)

-- the pair is one that a crash at entry might have left, or holds what comes of what the disks read as at entry
abbrev pub Kept : {D : Type 0} → disk.Ghosts D → (begins : World → Journal → Type 0) → (makes : Images → World → World → Images → Type 0) → D → D → List ℕ → List ℕ → Type 0
Kept g begins makes one two a b = (g.may_leave one a × g.may_leave two b) ⊎ ComesOf begins makes (g.seen one) (g.seen two) a b

-- one of the disks is not written: each of its images is one that a crash at entry might have left
abbrev pub WritesOne : {D : Type 0} → disk.Ghosts D → (one two one_new two_new : D) → Type 0
WritesOne g one two one_new two_new = LeavesOnly g one one_new (g.may_leave one) ⊎ LeavesOnly g two two_new (g.may_leave two)

-- What a call leaves: two parts, from the middle of which on each pair of images is as P says, and at most one disk is written.
pub record LeavesPairs {D : Type 0} (g : disk.Ghosts D) (one two one_new two_new : D) (P : List ℕ → List ℕ → Type 0) : Type 0 where
  pub parts : InTwoParts g one two one_new two_new P
  pub one_writes : WritesOne g one two one_new two_new

-- ---- at any moment

-- One disk leaves only what a crash at entry might have left. Each image of the other, at any moment of the call, has P beside each
-- image that the first may leave at exit.
pub record OneSide {D : Type 0} (g : disk.Ghosts D) (rest rest_new own own_new : D) (P : List ℕ → List ℕ → Type 0) : Type 0 where
  pub rest_only : LeavesOnly g rest rest_new (g.may_leave rest)
  pub own_only : LeavesOnly g own own_new (λ b. (a : List ℕ) → g.may_leave rest_new a → P a b)

-- one of the disks, or the other, is not written
abbrev pub AtAnyMoment : {D : Type 0} → disk.Ghosts D → (one two one_new two_new : D) → (List ℕ → List ℕ → Type 0) → Type 0
AtAnyMoment g one two one_new two_new P = OneSide g one one_new two two_new P ⊎ OneSide g two two_new one one_new (λ b a. P a b)

-- ---- at moments of both disks

-- Nothing is pending at entry on a disk that is not written.
pub record RestsDurable {D : Type 0} (g : disk.Ghosts D) (one two one_new two_new : D) : Type 0 where
  pub rests_one : LeavesOnly g one one_new (g.may_leave one) → Only (g.seen one) (g.may_leave one)
  pub rests_two : LeavesOnly g two two_new (g.may_leave two) → Only (g.seen two) (g.may_leave two)

-- each image of disk one at any moment of the call has P beside each of disk two at any moment of it
abbrev pub AtEachMoment : {D : Type 0} → disk.Ghosts D → (one two one_new two_new : D) → (List ℕ → List ℕ → Type 0) → Type 0
AtEachMoment g one two one_new two_new P = (a b : List ℕ) → g.left_since one_new (g.moment one) a → g.left_since two_new (g.moment two) b → P a b

-- what holds at any moment of one disk beside the images of the other at exit holds at each moment of both, where nothing is pending at entry on a
-- disk that is not written
abbrev pub IsOfEachMoment : {D : Type 0} → disk.Ghosts D → (one two one_new two_new : D) → (List ℕ → List ℕ → Type 0) → Type 0
IsOfEachMoment g one two one_new two_new P =
    IsTrue (g.tells one) → RestsDurable g one two one_new two_new → AtAnyMoment g one two one_new two_new P → AtEachMoment g one two one_new two_new P

-- ---- by deeds

-- what a deed leaves
abbrev pub LeavesKept : {D : Type 0} → disk.Ghosts D → (begins : World → Journal → Type 0) → (makes : Images → World → World → Images → Type 0) → (one two one_new two_new : D) → Type 0
LeavesKept g begins makes one two one_new two_new = AtAnyMoment g one two one_new two_new (Kept g begins makes one two)

-- ---- by words

-- with which worlds, by which journals, some deed that the words plan begins a store, and what it makes of a world, in such images
abbrev pub BegunBy : Option (List ℕ → Option (List ℕ)) → List (List ℕ) → World → Journal → Type 0
BegunBy told words v journal = OfSome told words (λ k. k.begins v journal)

-- what some deed that the words plan may make of a world
abbrev pub MadeBy : Option (List ℕ → Option (List ℕ)) → List (List ℕ) → Exchange → Images → World → World → Images → Type 0
MadeBy told words e before w v after = OfSome told words (λ k. k.makes e before w v after)

-- Each pair is one that a crash at entry might have left, or holds what the words make of what the disks read as at entry.
abbrev pub LeavesMade : {D : Type 0} → disk.Ghosts D → Option (List ℕ → Option (List ℕ)) → List (List ℕ) → Exchange → (one two one_new two_new : D) → Type 0
LeavesMade g told words e one two one_new two_new = AtAnyMoment g one two one_new two_new (Kept g (BegunBy told words) (MadeBy told words e) one two)

-- What a call keeps where each pair at entry holds nothing or a sound world: so do the pairs at any moment and those at exit, and neither is
-- a disk told to be damaged nor a world to be unsound.
pub record StaySound {D : Type 0} (g : disk.Ghosts D) (one two one_new two_new : D) (result : Status) : Type 0 where
  pub moments : AtAnyMoment g one two one_new two_new HoldsSound
  pub exit : EachPair g one_new two_new HoldsSound
  pub whole : (disk at : ℕ) (found : Option ℕ) → result ≡ status.Damaged disk at found → ⊥
  pub faultless : (f : Fault) → result ≡ status.Unsound f → ⊥

-- What stands after some deed that the words plan was done, of which this was written: there is a world that each pair of images holds, and of
-- which this is acknowledged.
pub record Stands {D : Type 0} (g : disk.Ghosts D) (told : Option (List ℕ → Option (List ℕ))) (words : List (List ℕ)) (one two : D)
    (taken taken_new : Option (List ℕ)) : Type 0 where
  pub deed : Deed
  pub plans : Plans told (command_of words) (plan.On deed)
  pub text : List ℕ
  pub written : Writes text taken taken_new
  pub world : World
  pub held : EachPair g one two (λ a b. IsHeld a b (a_world world))
  pub acknowledged : (row deed).acknowledges text world
