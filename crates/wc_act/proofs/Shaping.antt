-- Each reply that a deed owes has a status of a reply.
use Rattle.std.proofs.Common.{◌≡◌, inl, inr, ⊎_elim, sym, subst}
use Rattle.wc_world.specs.World.{World}
use Rattle.wc_store.specs.Held.{Standing, nothing, damage, a_world}
use Rattle.wc_plan.specs.declared.deed.Asked.{Asked}
use Rattle.wc_plan.specs.declared.deed.Begin.TheVariants as begin
use Rattle.wc_plan.specs.declared.deed.Deed.{Deed}
use Rattle.wc_plan.specs.declared.deed.Deed.TheVariants as deed
use Rattle.wc_plan.specs.declared.deed.Work.{Work}
use Rattle.wc_plan.specs.declared.deed.Work.TheVariants as work
use Rattle.wc_plan.specs.declared.reply.Reply.{Reply}
use Rattle.wc_plan.specs.Replies.{IsReplied}
use Rattle.wc_act.specs.Drills.{has_drilled}
use Rattle.wc_act.specs.Events.{TellsAlone}
use Rattle.wc_act.specs.Owed.{Done}
use Rattle.wc_act.specs.Rows.{row, work_row}
use Rattle.wc_act.specs.StoreDeeds.{Images}
use Rattle.wc_act.proofs.Turns.{run_replied}
use Rattle.wc_act.proofs.Viewing.{shown_replied, view_shown}

-- ---- each has a status of a reply

same_replied : (r s : Reply) → r ≡ s → IsReplied s.status → IsReplied r.status
same_replied r s is replied = subst (λ (x : Reply). IsReplied x.status) (sym is) replied

alone_replied : (a : Asked) (w : World) (r : Reply) → TellsAlone a w r → IsReplied r.status
alone_replied a w r (inl idle) = same_replied r _ idle.1 tt
alone_replied a w r (inr (inl refused)) = same_replied r _ refused.2 tt
alone_replied a w r (inr (inr full)) = same_replied r _ full.4 tt

work_replied : (k : Work) (before : Images) (w : World) (after : Images) (r : Reply) → (work_row k).does before w after r → IsReplied r.status
work_replied (work.View v) before w after r shows = shown_replied r.status (view_shown v w r shows.1)
work_replied (work.Event a) before w after r (inl e) = same_replied r _ e.reply tt
work_replied (work.Event a) before w after r (inr u) = ⊎_elim (alone_replied a w r) (λ full. same_replied r _ full.4 tt) u.tells
work_replied (work.Run o) before w after r runs = ⊎_elim (λ has. same_replied r _ has.reply (run_replied has.end)) (λ full. same_replied r _ full.reply tt) runs.ends
work_replied work.Pack before w after r packs = ⊎_elim (λ packed. same_replied r _ packed.reply tt) (λ full. same_replied r _ full.1.reply tt) packs.1.2

pub row_replied : (d : Deed) (r : Reply) (before after : Images) → Done (row d) r before after → IsReplied r.status
row_replied d r before after done = at d done.0 done.2
  where
    at : (d : Deed) (s : Standing) → (row d).does before s after r → IsReplied r.status
    at (deed.Begin begin.Init) nothing h = same_replied r _ h.2 tt
    at (deed.Begin begin.Init) (damage disk place found) h = same_replied r _ h.1 tt
    at (deed.Begin begin.Init) (a_world w) h = same_replied r _ h.1 tt
    at (deed.Begin (begin.Drill seed count)) nothing h =
        ⊎_elim (λ ended. same_replied r (has_drilled seed count h.world) ended.reply tt)
        (λ full. same_replied r _ full.reply tt) h.ends
    at (deed.Begin (begin.Drill seed count)) (damage disk place found) h = same_replied r _ h.1 tt
    at (deed.Begin (begin.Drill seed count)) (a_world w) h = same_replied r _ h.1 tt
    at (deed.Work k) nothing h = same_replied r _ h.1 tt
    at (deed.Work k) (damage disk place found) h = same_replied r _ h.1 tt
    at (deed.Work k) (a_world w) h = work_replied k before w after r h
