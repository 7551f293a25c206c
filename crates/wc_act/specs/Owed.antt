-- What is owed for words: a status and a text, by what they plan.
use Rattle.std.specs.Prelude.{◌≡◌, ℕ, Bool, IsSome, IsTrue, List, Option}
use Rattle.wc_disk.specs.declared.disk.Disk as disk
use Rattle.wc_world.specs.World.{World}
use Rattle.wc_store.specs.Held.{Standing, a_world}
use Rattle.wc_cli.specs.Words.{command_of}
use Rattle.wc_plan.specs.declared.deed.Deed.{Deed}
use Rattle.wc_plan.specs.declared.deed.Plan.{Plan}
use Rattle.wc_plan.specs.declared.deed.Plan.TheVariants as plan
use Rattle.wc_plan.specs.declared.reply.Reply.{Reply}
use Rattle.wc_plan.specs.declared.status.Cause.{Cause}
use Rattle.wc_plan.specs.declared.status.Status.{Status}
use Rattle.wc_plan.specs.declared.status.Status.TheVariants as status
use Rattle.wc_plan.specs.Plans.{Plans}
use Rattle.wc_act.specs.Statuses.{IsDoneOrFull}
use Rattle.wc_act.specs.Rows.{Row, WorkRow, row}
use Rattle.wc_act.specs.StoreDeeds.{Images, Hold}

-- What a call sees of the disks: whether they tell their bytes, and what they read as at entry and at exit.
pub record Visit : Type 0 where
  pub tells_one : Bool
  pub tells_two : Bool
  pub before : Images
  pub after : Images

-- What a call sees of the disks: whether they tell their bytes, and what they read as at entry and at exit
abbrev pub visit : {D : Type 0} → disk.Ghosts D → (one two one_new two_new : D) → Visit
visit g one two one_new two_new = record {
  tells_one = g.tells one;
  tells_two = g.tells two;
  before = (g.seen one, g.seen two);
  after = (g.seen one_new, g.seen two_new);
}

-- Images at entry and at exit are as P says: those that the disks read as, where both tell their bytes.
pub record OfVisit (v : Visit) (P : (before after : Images) → Type 0) : Type 0 where
  pub before : Images
  pub after : Images
  pub told : IsTrue v.tells_one → IsTrue v.tells_two → (before ≡ v.before) × (after ≡ v.after)
  pub are : P before after

-- what is done on a store, by the world that the images hold at entry
abbrev pub DoneOn : WorkRow → World → Reply → (before after : Images) → Type 0
DoneOn k w reply before after = Hold before (a_world w) × k.does before w after reply

-- what a deed has done, by what the images hold at entry
abbrev pub Done : Row → Reply → (before after : Images) → Type 0
Done k reply before after = (s : Standing) × Hold before s × k.does before s after reply

-- for a deed, by its row
abbrev pub OwedDeed : Visit → Deed → Reply → Type 0
OwedDeed v d reply = OfVisit v (Done (row d) reply)

-- for a plan; where a reply is told, the disks read as before
abbrev pub OwedPlan : Visit → Plan → Reply → Type 0
OwedPlan v (plan.Reply told) reply = (reply ≡ told) × (v.after ≡ v.before)
OwedPlan v (plan.On d) reply = OwedDeed v d reply

-- the reply is the one owed for these words by a shelf that tells this, and by two disks
abbrev pub IsOwed : Option (List ℕ → Option (List ℕ)) → Visit → List (List ℕ) → Reply → Type 0
IsOwed told v words reply = (p : Plan) × Plans told (command_of words) p × OwedPlan v p reply

-- ---- by the rows of what words plan

-- P holds of the row of some deed that the words plan
abbrev pub OfSome : Option (List ℕ → Option (List ℕ)) → List (List ℕ) → (Row → Type 0) → Type 0
OfSome told words P = (d : Deed) × Plans told (command_of words) (plan.On d) × P (row d)

-- of the row of each
abbrev pub OfEach : Option (List ℕ → Option (List ℕ)) → List (List ℕ) → (Row → Type 0) → Type 0
OfEach told words P = (d : Deed) → Plans told (command_of words) (plan.On d) → P (row d)

-- the words plan no deed
abbrev pub AskNoDisk : Option (List ℕ → Option (List ℕ)) → List (List ℕ) → Type 0
AskNoDisk told words = OfEach told words (λ k. ⊥)

-- one reply at most is owed, where each deed that is planned is certain, and the disks that it asks tell their bytes
abbrev pub IsCertain : Option (List ℕ → Option (List ℕ)) → (tells_one tells_two : Bool) → List (List ℕ) → Type 0
IsCertain told tells_one tells_two words = IsSome told × OfEach told words (λ k. k.certain × IsTrue tells_one × IsTrue tells_two)

-- no deed that the words plan may be refused for this cause
abbrev pub IsNoDeeds : Option (List ℕ → Option (List ℕ)) → List (List ℕ) → Cause → Type 0
IsNoDeeds told words c = OfEach told words (λ k. (r : Reply) (before after : Images) → Done k r before after → r.status ≡ status.Refused c → ⊥)

-- the words plan no reply by which something was done with no disk
abbrev pub NeedDisks : Option (List ℕ → Option (List ℕ)) → List (List ℕ) → Type 0
NeedDisks told words = (r : Reply) → Plans told (command_of words) (plan.Reply r) → IsDoneOrFull r.status → ⊥

-- nothing was written where a deed ends so
abbrev pub LeaveUndone : Option (List ℕ → Option (List ℕ)) → List (List ℕ) → Status → Type 0
LeaveUndone told words s = OfEach told words (λ k. k.undone s)
