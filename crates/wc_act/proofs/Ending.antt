-- A run with enough turns ends every process, or breaks off.
use Rattle.std.proofs.Common.{◌≡◌, ℕ, List, Option, ⊎_elim, refl, sym, subst}
use Rattle.std.specs.Prelude.{IsTrue}
use Rattle.wc_disk.specs.declared.disk.Disk as disk
use Rattle.wc_io.specs.declared.pacer.Pacer as pacer
use Rattle.wc_transport.specs.declared.transport.Transport as transport
use Rattle.wc_world.specs.World.{World}
use Rattle.wc_store.specs.Held.{Standing, a_world}
use Rattle.wc_store.specs.Laws.{HeldIsOne, HeldIsReached}
use Rattle.wc_drill.specs.Runner.declared.runs.RunEnd.{RunEnd}
use Rattle.wc_drill.specs.Runner.declared.runs.RunEnd.TheVariants.{AllEnded, Spent, Resting}
use Rattle.wc_drill.proofs.EveryProcess.{enough_turns_end}
use Rattle.wc_plan.specs.Replies.{OwesStatus}
use Rattle.wc_plan.specs.declared.deed.Deed.{Deed}
use Rattle.wc_plan.specs.declared.deed.Deed.TheVariants as deed
use Rattle.wc_plan.specs.declared.deed.Plan.{Plan}
use Rattle.wc_plan.specs.declared.deed.Plan.TheVariants as plan
use Rattle.wc_plan.specs.declared.deed.RunOptions.{RunOptions}
use Rattle.wc_plan.specs.declared.deed.Work.TheVariants as work
use Rattle.wc_plan.specs.declared.reply.Reply.{Reply}
use Rattle.wc_plan.specs.declared.status.Status.{Status}
use Rattle.wc_plan.specs.declared.status.Status.TheVariants as status
use Rattle.wc_act.specs.Enough.{EndsOrBreaks, HasEnoughToRun}
use Rattle.wc_act.specs.Exchanges.{Exchange, exchange}
use Rattle.wc_act.specs.Outside.{ActsOutside, RunsOutside, ServesOutside}
use Rattle.wc_act.specs.Owed.{Done, IsOwed, NeedDisks, OwedPlan, Visit, visit}
use Rattle.wc_act.specs.Rows.{row}
use Rattle.wc_act.specs.Runs.{Runs, status_of}
use Rattle.wc_act.specs.Statuses.{IsDoneOrFull}
use Rattle.wc_act.specs.StoreDeeds.{AtStore, Hold, Images}
use Rattle.wc_act.proofs.Exchanged.{no_deed, same_deed}
use Rattle.wc_act.proofs.Visiting.{of_told}

done_end : (end : RunEnd) → IsDoneOrFull (status_of end)
done_end AllEnded = tt
done_end Spent = tt
done_end Resting = tt

module _ {D T P : Type 0} (g : disk.Ghosts D) (h : transport.Ghosts T) (k : pacer.Ghosts P) (law : HeldIsOne) (reached : HeldIsReached)
    (told : Option (List ℕ → Option (List ℕ))) (words : List (List ℕ)) (one two one_new two_new : D) (old new : T) (clock clock_new : P)
    (e : HasEnoughToRun g h k told words one two old clock) where
  abbrev o : RunOptions
  o = e.options

  abbrev its_run : Deed
  its_run = deed.Work (work.Run o)

  abbrev before : Images
  before = (g.seen one, g.seen two)

  abbrev after : Images
  after = (g.seen one_new, g.seen two_new)

  abbrev its_visit : Visit
  its_visit = visit g one two one_new two_new

  abbrev its_exchange : Exchange
  its_exchange = exchange h k old new clock clock_new

  -- the images hold one world
  same_world : (w : World) → Hold before (a_world w) → w ≡ e.world
  same_world w held = let same : a_world w ≡ a_world e.world = law (g.seen one) (g.seen two) (a_world w) (a_world e.world) held e.held in cc

  needs : NeedDisks told words
  needs r plans done = no_deed its_run r (sym (e.plans (plan.Reply r) plans))

  -- what is owed is what the run did
  has_run_on : (r : Reply) → IsOwed told its_visit words r → Runs o before e.world after r
  has_run_on r (p, plans, owed) =
      let on_run : OwedPlan its_visit (plan.On its_run) r = subst (λ (x : Plan). OwedPlan its_visit x r) (e.plans p plans) owed in
      let done : Done (row its_run) r before after = of_told its_visit (Done (row its_run) r) on_run e.tells_one e.tells_two in
      subst (λ (s : Standing). AtStore before (Runs o before) s after r) (law (g.seen one) (g.seen two) done.0 (a_world e.world) done.1 e.held) done.2

  is_done : (r : Reply) → IsOwed told its_visit words r → IsDoneOrFull r.status
  is_done r owed =
      ⊎_elim (λ has. subst (λ (x : Reply). IsDoneOrFull x.status) (sym has.reply) (done_end has.end))
      (λ full. subst (λ (x : Reply). IsDoneOrFull x.status) (sym full.reply) tt) (has_run_on r owed).ends

  runs_outside : (s : Status) → ServesOutside told words its_exchange its_visit s → RunsOutside its_exchange o e.world after s
  runs_outside s (d, plans, acts) =
      let runs : ActsOutside its_exchange its_run before after s = subst (λ (x : Deed). ActsOutside its_exchange x before after s) (same_deed d its_run (e.plans (plan.On d) plans)) acts in
      subst (λ (w : World). RunsOutside its_exchange o w after s) (same_world runs.0 runs.1) runs.2

  -- a run that ends so ends every process
  all_ended : (s : Status) (end : RunEnd) → RunsOutside its_exchange o e.world after s → s ≡ status_of end → end ≡ AllEnded
  all_ended s end runs is =
      enough_turns_end h k o.limits o.turns old new clock clock_new e.world runs.later end its_exchange.rests its_exchange.rests_new
      (reached (g.seen one) (g.seen two) e.world e.held) e.enough (runs.trail end is).0 (runs.ends end is)

  ended_as : (s : Status) → IsDoneOrFull s → RunsOutside its_exchange o e.world after s → EndsOrBreaks after s
  ended_as status.Ok done runs = (runs.later, runs.held, runs.ends AllEnded refl)
  ended_as (status.Refused c) done runs = absurd done
  ended_as status.OutOfMemory done runs = tt
  ended_as status.Spent done runs = let is : Spent ≡ AllEnded = all_ended status.Spent Spent runs refl in absurd (cc)
  ended_as status.Resting done runs = let is : Resting ≡ AllEnded = all_ended status.Resting Resting runs refl in absurd (cc)
  ended_as status.DiskFault done runs = tt
  ended_as (status.Damaged disk at found) done runs = absurd done
  ended_as status.ReadFault done runs = tt
  ended_as status.WriteFault done runs = tt
  ended_as (status.Full what count limit) done runs = tt
  ended_as (status.Unsound fault) done runs = absurd done

  -- The reply that is owed says so.
  pub ends_or_breaks : (r : Reply) → IsOwed told its_visit words r
      → (NeedDisks told words → IsDoneOrFull r.status → IsTrue (g.tells one) → IsTrue (g.tells two) → ServesOutside told words its_exchange its_visit r.status)
      → EndsOrBreaks after r.status
  ends_or_breaks r owed outside =
      let done : IsDoneOrFull r.status = is_done r owed in
      ended_as r.status done (runs_outside r.status (outside needs done e.tells_one e.tells_two))

-- and so does the status that is told
pub ends_told : (images : Images) (owed ended : Status) → OwesStatus owed ended → EndsOrBreaks images owed → EndsOrBreaks images ended
ends_told images owed status.Ok h p = subst (EndsOrBreaks images) (sym h) p
ends_told images owed (status.Refused c) h p = subst (EndsOrBreaks images) (sym h) p
ends_told images owed status.OutOfMemory h p = tt
ends_told images owed status.Spent h p = subst (EndsOrBreaks images) (sym h) p
ends_told images owed status.Resting h p = subst (EndsOrBreaks images) (sym h) p
ends_told images owed status.DiskFault h p = tt
ends_told images owed (status.Damaged disk at found) h p = subst (EndsOrBreaks images) (sym h) p
ends_told images owed status.ReadFault h p = tt
ends_told images owed status.WriteFault h p = tt
ends_told images owed (status.Full what count limit) h p = tt
ends_told images owed (status.Unsound fault) h p = subst (EndsOrBreaks images) (sym h) p
