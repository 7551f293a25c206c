-- What is acknowledged stands.
use Rattle.std.proofs.Common.{◌≡◌, inl, inr, ⊎_elim, ℕ, List, [], Option, IsTrue, sym, ap, subst, ◌∙◌}
use Rattle.wc_disk.specs.declared.disk.Disk as disk
use Rattle.wc_journal.specs.declared.error.Found.{Found}
use Rattle.wc_state.specs.declared.record.What.{What}
use Rattle.wc_world.specs.World.{World, empty}
use Rattle.wc_world.specs.Applied.{applied}
use Rattle.wc_machine.specs.Machine.{after_changes}
use Rattle.wc_drill.proofs.Runner.Happening.{after_some}
use Rattle.wc_store.specs.Held.{Standing, nothing, damage, a_world}
use Rattle.wc_store.specs.Laws.{HeldIsReached}
use Rattle.wc_cli.specs.Words.{command_of}
use Rattle.wc_plan.specs.declared.deed.Begin.TheVariants as begin
use Rattle.wc_plan.specs.declared.deed.Deed.{Deed}
use Rattle.wc_plan.specs.declared.deed.Deed.TheVariants as deed
use Rattle.wc_plan.specs.declared.deed.Work.{Work}
use Rattle.wc_plan.specs.declared.deed.Work.TheVariants as work
use Rattle.wc_plan.specs.declared.deed.Plan.{Plan}
use Rattle.wc_plan.specs.declared.deed.Plan.TheVariants as plan
use Rattle.wc_plan.specs.declared.reply.Reply.{Reply}
use Rattle.wc_plan.specs.declared.status.Cause.{Cause}
use Rattle.wc_plan.specs.declared.status.Cause.TheVariants as cause
use Rattle.wc_plan.specs.declared.status.Status.{Status}
use Rattle.wc_plan.specs.declared.status.Status.TheVariants as status
use Rattle.wc_act.specs.Crashes.{AreDurable, Stands}
use Rattle.wc_act.specs.Owed.{visit, Done, OwedPlan, IsOwed, NeedDisks}
use Rattle.wc_plan.specs.Plans.{Plans, IsReadyDeed, IsReadyWork}
use Rattle.wc_plan.specs.Replies.{refuses, OwesStatus, Writes}
use Rattle.wc_act.specs.Statuses.{IsDoneOrFull}
use Rattle.wc_act.specs.Events.{TellsAlone}
use Rattle.wc_act.specs.Rows.{HasHappened, row, work_row}
use Rattle.wc_act.specs.StoreDeeds.{Images, Hold, is_damaged, is_full}
use Rattle.wc_plan.proofs.Planned.{plan_ready}
use Rattle.wc_act.proofs.Visiting.{of_told}
use Rattle.wc_act.proofs.Happened.{has_happened}
use Rattle.wc_act.proofs.Exits.{durable_same}

-- ---- what wasn't done

no_refusal : (c : Cause) → status.Refused c ≡ status.Ok → ⊥
no_refusal c h = cc

not_refused : (c : Cause) (r : Reply) → r ≡ refuses c → r.status ≡ status.Ok → ⊥
not_refused c r is ok = no_refusal c (sym (ap (λ (x : Reply). x.status) is) ∙ ok)

not_damaged : (disk at : ℕ) (found : Found) (r : Reply) → r ≡ is_damaged disk at found → r.status ≡ status.Ok → ⊥
not_damaged disk at found r is ok = cc

not_full : (what : What) (count limit : ℕ) (r : Reply) → r ≡ is_full what count limit → r.status ≡ status.Ok → ⊥
not_full what count limit r is ok = cc

-- ---- what was done

-- the images hold a world of which P is acknowledged
abbrev HoldsAcknowledged : Images → (World → Type 0) → Type 0
HoldsAcknowledged after P = (w : World) × Hold after (a_world w) × P w

work_acknowledged : HeldIsReached → (k : Work) → IsReadyWork k → (before : Images) (w : World) (after : Images) (r : Reply) → Hold before (a_world w) → r.status ≡ status.Ok
    → (work_row k).does before w after r → HoldsAcknowledged after ((work_row k).acknowledges r.text)
work_acknowledged law (work.View v) ready before w after r held ok shows = (w, subst (λ (x : Images). Hold x (a_world w)) (sym shows.0) held, tt)
work_acknowledged law (work.Event a) ready before w after r held ok (inl e) = (
  applied w e.changes,
  e.held,
  subst (λ (v : World). HasHappened a r.text v) (after_some w e.changes e.some)
      (subst (λ (t : List ℕ). HasHappened a t (after_changes w e.changes)) (sym (ap (λ (x : Reply). x.text) e.reply))
      (has_happened a w e.changes (law before.0 before.1 w held) ready e.submits)),
)
work_acknowledged law (work.Event a) ready before w after r held ok (inr u) = ⊎_elim alone (λ full. absurd (not_full full.0 full.1 full.2 r full.4 ok)) u.tells
  where
    alone : TellsAlone a w r → HoldsAcknowledged after (HasHappened a r.text)
    alone (inl idle) = (
      w,
      u.held,
      subst (λ (t : List ℕ). HasHappened a t w) (sym (ap (λ (x : Reply). x.text) idle.1)) (has_happened a w [] (law before.0 before.1 w held) ready idle.0),
    )
    alone (inr (inl refused)) = absurd (not_refused refused.0 r refused.2 ok)
    alone (inr (inr full)) = absurd (not_full full.0 full.1 full.2 r full.4 ok)
work_acknowledged law (work.Run o) ready before w after r held ok runs = (runs.later, runs.held, tt)
work_acknowledged law work.Pack ready before w after r held ok packs = (w, packs.0, tt)

row_acknowledged : HeldIsReached → (d : Deed) → IsReadyDeed d → (before : Images) (s : Standing) (after : Images) (r : Reply) → Hold before s → r.status ≡ status.Ok
    → (row d).does before s after r → HoldsAcknowledged after ((row d).acknowledges r.text)
row_acknowledged law (deed.Begin begin.Init) ready before nothing after r held ok at = (empty, at.0.held, tt)
row_acknowledged law (deed.Begin begin.Init) ready before (damage disk place found) after r held ok at = absurd (not_damaged disk place found r at.1 ok)
row_acknowledged law (deed.Begin begin.Init) ready before (a_world w) after r held ok at = absurd (not_refused cause.StoreExists r at.1 ok)
row_acknowledged law (deed.Begin (begin.Drill seed count)) ready before nothing after r held ok at =
    (at.world, at.held, ⊎_elim (λ ended. (ended.ends, ap (λ (x : Reply). x.text) ended.reply)) (λ full. absurd (not_full full.what full.many full.limit r full.reply ok)) at.ends)
row_acknowledged law (deed.Begin (begin.Drill seed count)) ready before (damage disk place found) after r held ok at = absurd (not_damaged disk place found r at.1 ok)
row_acknowledged law (deed.Begin (begin.Drill seed count)) ready before (a_world w) after r held ok at = absurd (not_refused cause.StoreExists r at.1 ok)
row_acknowledged law (deed.Work k) ready before nothing after r held ok at = absurd (not_refused cause.NoStore r at.1 ok)
row_acknowledged law (deed.Work k) ready before (damage disk place found) after r held ok at = absurd (not_damaged disk place found r at.1 ok)
row_acknowledged law (deed.Work k) ready before (a_world w) after r held ok at = work_acknowledged law k ready before w after r held ok at

pub owed_ok : (owed ended : Status) → OwesStatus owed ended → ended ≡ status.Ok → owed ≡ status.Ok
owed_ok owed ended h is = sym (subst (OwesStatus owed) is h)

module _ {D : Type 0} (g : disk.Ghosts D) (law : HeldIsReached) (told : Option (List ℕ → Option (List ℕ))) (words : List (List ℕ)) (one two one_new two_new : D)
    (old new : Option (List ℕ)) (r : Reply) (tells : IsTrue (g.tells one)) (tells_too : IsTrue (g.tells two)) (needs : NeedDisks told words) (ok : r.status ≡ status.Ok)
    (writes : Writes r.text old new) (durable : AreDurable g one_new two_new) where
  of_plan : (p : Plan) → Plans told (command_of words) p → OwedPlan (visit g one two one_new two_new) p r → Stands g told words one_new two_new old new
  of_plan (plan.Reply t) plans owed =
      absurd (needs t plans (subst (λ (x : Reply). IsDoneOrFull x.status) owed.0 (subst IsDoneOrFull (sym ok) tt)))
  of_plan (plan.On d) plans owed =
      let done = of_told (visit g one two one_new two_new) (Done (row d) r) owed tells tells_too in
      let a = row_acknowledged law d (plan_ready told (command_of words) d plans) (g.seen one, g.seen two) done.0 (g.seen one_new, g.seen two_new) r done.1 ok done.2 in
      record {
        deed = d;
        plans = plans;
        text = r.text;
        written = writes;
        world = a.0;
        held = λ x y left left_too. durable_same g one_new two_new durable x y left left_too (a_world a.0) a.1;
        acknowledged = a.2;
      }

  pub stands_done : IsOwed told (visit g one two one_new two_new) words r → Stands g told words one_new two_new old new
  stands_done owed = of_plan owed.0 owed.1 owed.2
