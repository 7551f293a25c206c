-- Neither damage nor an unsound world is told of disks that hold nothing or a sound world.
use Rattle.std.proofs.Common.{◌≡◌, inl, inr, ⊎_elim, ℕ, List, Option, IsTrue, sym, subst}
use Rattle.wc_journal.specs.declared.error.Found.{Found}
use Rattle.wc_drill.specs.Runner.declared.runs.RunEnd.{RunEnd}
use Rattle.wc_drill.specs.Runner.declared.runs.RunEnd.TheVariants.{AllEnded, Spent, Resting}
use Rattle.wc_machine.specs.Sound.{IsSound}
use Rattle.wc_world.specs.World.{World}
use Rattle.wc_store.specs.Held.{Standing, nothing, damage, a_world}
use Rattle.wc_store.specs.Laws.{HeldIsOne}
use Rattle.wc_cli.specs.declared.command.Command.{Command}
use Rattle.wc_plan.specs.declared.deed.Asked.{Asked}
use Rattle.wc_plan.specs.declared.deed.Begin.TheVariants as begin
use Rattle.wc_plan.specs.declared.deed.Deed.{Deed}
use Rattle.wc_plan.specs.declared.deed.Deed.TheVariants as deed
use Rattle.wc_plan.specs.declared.deed.Work.{Work}
use Rattle.wc_plan.specs.declared.deed.Work.TheVariants as work
use Rattle.wc_plan.specs.declared.deed.Plan.{Plan}
use Rattle.wc_plan.specs.declared.deed.Plan.TheVariants as plan
use Rattle.wc_plan.specs.declared.reply.Reply.{Reply}
use Rattle.wc_plan.specs.declared.status.Fault.{Fault}
use Rattle.wc_plan.specs.declared.status.Status.{Status}
use Rattle.wc_plan.specs.declared.status.Status.TheVariants as status
use Rattle.wc_act.specs.Crashes.{HoldsSound}
use Rattle.wc_act.specs.Drills.{has_drilled}
use Rattle.wc_act.specs.Events.{TellsAlone}
use Rattle.wc_act.specs.Owed.{Visit, Done, OwedPlan}
use Rattle.wc_plan.specs.Plans.{Plans}
use Rattle.wc_plan.specs.Replies.{OwesStatus}
use Rattle.wc_act.specs.Rows.{row, work_row}
use Rattle.wc_act.specs.Runs.{has_run}
use Rattle.wc_act.specs.StoreDeeds.{Images, Hold}
use Rattle.wc_plan.proofs.Replied.{told_replied, IsDoneOrRefused}
use Rattle.wc_act.proofs.Viewing.{IsFaultless, view_faultless}
use Rattle.wc_act.proofs.Visiting.{of_told}

-- the reply tells neither damage nor an unsound world
abbrev pub TellsWhole : Reply → Type 0
TellsWhole r = IsFaultless r.status

-- ---- replies

same_tells : (r s : Reply) → r ≡ s → TellsWhole s → TellsWhole r
same_tells r s same whole = subst TellsWhole (sym same) whole

told_whole : (s : Status) → IsDoneOrRefused s → IsFaultless s
told_whole status.Ok h = tt
told_whole (status.Refused c) h = tt
told_whole status.OutOfMemory h = tt
told_whole status.Spent h = tt
told_whole status.Resting h = tt
told_whole status.DiskFault h = tt
told_whole (status.Damaged disk at found) h = h
told_whole status.ReadFault h = tt
told_whole status.WriteFault h = tt
told_whole (status.Full what count limit) h = tt
told_whole (status.Unsound f) h = h

run_tells : (end : RunEnd) (w v : World) → TellsWhole (has_run end w v)
run_tells AllEnded w v = tt
run_tells Spent w v = tt
run_tells Resting w v = tt

-- ---- what is done on a store

alone_tells : (a : Asked) (w : World) (r : Reply) → TellsAlone a w r → TellsWhole r
alone_tells a w r (inl idle) = same_tells r _ idle.1 tt
alone_tells a w r (inr (inl refused)) = same_tells r _ refused.2 tt
alone_tells a w r (inr (inr full)) = same_tells r _ full.4 tt

work_tells : (k : Work) (before : Images) (w : World) (after : Images) (r : Reply) → IsSound w → (work_row k).does before w after r → TellsWhole r
work_tells (work.View v) before w after r sound shows = view_faultless v w r sound shows.1
work_tells (work.Event a) before w after r sound (inl e) = same_tells r _ e.reply tt
work_tells (work.Event a) before w after r sound (inr u) = ⊎_elim (alone_tells a w r) (λ full. same_tells r _ full.4 tt) u.tells
work_tells (work.Run o) before w after r sound runs =
    ⊎_elim (λ has. same_tells r _ has.reply (run_tells has.end w runs.later)) (λ full. same_tells r _ full.reply tt) runs.ends
work_tells work.Pack before w after r sound packs = ⊎_elim (λ packed. same_tells r _ packed.reply tt) (λ full. same_tells r _ full.1.reply tt) packs.1.2

-- ---- where no disk is damaged

world_or_damage : (w : World) (disk at : ℕ) (found : Found) → a_world w ≡ damage disk at found → ⊥
world_or_damage w disk at found same = cc

nothing_or_damage : (disk at : ℕ) (found : Found) → nothing ≡ damage disk at found → ⊥
nothing_or_damage disk at found same = cc

no_damage : HeldIsOne → (before : Images) → HoldsSound before.0 before.1 → (disk at : ℕ) (found : Found) → Hold before (damage disk at found) → ⊥
no_damage law before (inl none) disk at found held = nothing_or_damage disk at found (law before.0 before.1 nothing (damage disk at found) none held)
no_damage law before (inr sound) disk at found held = world_or_damage sound.0 disk at found (law before.0 before.1 (a_world sound.0) (damage disk at found) sound.1 held)

one_world : (v w : World) → a_world v ≡ a_world w → v ≡ w
one_world v w same = cc

nothing_or_world : (w : World) → nothing ≡ a_world w → ⊥
nothing_or_world w same = cc

-- the world that they hold is sound
sound_world : HeldIsOne → (before : Images) → HoldsSound before.0 before.1 → (w : World) → Hold before (a_world w) → IsSound w
sound_world law before (inl none) w held = absurd (nothing_or_world w (law before.0 before.1 nothing (a_world w) none held))
sound_world law before (inr sound) w held = subst IsSound (one_world sound.0 w (law before.0 before.1 (a_world sound.0) (a_world w) sound.1 held)) sound.2

module _ (law : HeldIsOne) (before after : Images) (r : Reply) (sound : HoldsSound before.0 before.1) where
  row_tells : (d : Deed) (s : Standing) → Hold before s → (row d).does before s after r → TellsWhole r
  row_tells (deed.Begin begin.Init) nothing held at = same_tells r _ at.2 tt
  row_tells (deed.Begin begin.Init) (damage disk place found) held at = absurd (no_damage law before sound disk place found held)
  row_tells (deed.Begin begin.Init) (a_world w) held at = same_tells r _ at.1 tt
  row_tells (deed.Begin (begin.Drill seed count)) nothing held at =
      ⊎_elim (λ ended. same_tells r (has_drilled seed count at.world) ended.reply tt) (λ full. same_tells r _ full.reply tt) at.ends
  row_tells (deed.Begin (begin.Drill seed count)) (damage disk place found) held at = absurd (no_damage law before sound disk place found held)
  row_tells (deed.Begin (begin.Drill seed count)) (a_world w) held at = same_tells r _ at.1 tt
  row_tells (deed.Work k) nothing held at = same_tells r _ at.1 tt
  row_tells (deed.Work k) (damage disk place found) held at = absurd (no_damage law before sound disk place found held)
  row_tells (deed.Work k) (a_world w) held at = work_tells k before w after r (sound_world law before sound w held) at

pub owed_tells : HeldIsOne → (told : Option (List ℕ → Option (List ℕ))) (command : Option Command) (v : Visit) (p : Plan) (r : Reply) → HoldsSound v.before.0 v.before.1
    → IsTrue v.tells_one → IsTrue v.tells_two → Plans told command p → OwedPlan v p r → TellsWhole r
owed_tells law told command v (plan.Reply t) r sound tells tells_too plans owed = subst TellsWhole (sym owed.0) (told_whole t.status (told_replied told command t plans))
owed_tells law told command v (plan.On d) r sound tells tells_too plans owed =
    let done = of_told v (Done (row d) r) owed tells tells_too in row_tells law v.before v.after r sound d done.0 done.1 done.2

-- a call that ends as this tells no damage, and no unsound world
pub ends_whole : (owed ended : Status) → OwesStatus owed ended → IsFaultless owed → (disk at : ℕ) (found : Option ℕ) → ended ≡ status.Damaged disk at found → ⊥
ends_whole owed ended owes whole disk at found is = subst IsFaultless (sym (subst (OwesStatus owed) is owes)) whole

pub ends_faultless : (owed ended : Status) → OwesStatus owed ended → IsFaultless owed → (f : Fault) → ended ≡ status.Unsound f → ⊥
ends_faultless owed ended owes whole f is = subst IsFaultless (sym (subst (OwesStatus owed) is owes)) whole
