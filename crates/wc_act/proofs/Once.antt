-- One reply is owed for words, where the shelf tells its contents.
use Rattle.std.proofs.Common.{◌≡◌, ℕ, List, Option, refl, sym, subst, ◌∙◌}
use Rattle.std.specs.Prelude.{IsTrue}
use Rattle.wc_world.specs.World.{World}
use Rattle.wc_store.specs.Laws.{HeldIsOne}
use Rattle.wc_cli.specs.Words.{command_of}
use Rattle.wc_plan.specs.declared.deed.Begin.TheVariants as begin
use Rattle.wc_plan.specs.declared.deed.Deed.{Deed}
use Rattle.wc_plan.specs.declared.deed.Deed.TheVariants as deed
use Rattle.wc_plan.specs.declared.deed.Plan.{Plan}
use Rattle.wc_plan.specs.declared.deed.Plan.TheVariants as plan
use Rattle.wc_plan.specs.declared.deed.Work.{Work}
use Rattle.wc_plan.specs.declared.deed.Work.TheVariants as work
use Rattle.wc_plan.specs.declared.reply.Reply.{Reply}
use Rattle.wc_plan.specs.Plans.{Plans}
use Rattle.wc_plan.proofs.Once.{one_plan}
use Rattle.wc_act.specs.Owed.{Visit, Done, OwedPlan, IsCertain, IsOwed}
use Rattle.wc_act.specs.Rows.{row, work_row}
use Rattle.wc_act.specs.StoreDeeds.{Images}
use Rattle.wc_act.proofs.Visiting.{of_told}
use Rattle.wc_act.proofs.OnceStored.{one_init, one_on, one_pack, one_entry}
use Rattle.wc_act.proofs.Viewing.{one_view}

work_once : HeldIsOne → (w : Work) → (work_row w).certain → (before after : Images) (r s : Reply) (world : World) → (work_row w).does before world after r
    → (work_row w).does before world after s → r ≡ s
work_once law (work.View v) c before after r s world p q = one_view v world r s p.1 q.1
work_once law (work.Event a) c before after r s world p q = one_entry law a before after r s world p q
work_once law (work.Run o) c before after r s world p q = absurd c
work_once law work.Pack c before after r s world p q = one_pack before after r s world p q

row_once : HeldIsOne → (d : Deed) → (row d).certain → (before after : Images) (r s : Reply) → Done (row d) r before after → Done (row d) s before after → r ≡ s
row_once law (deed.Begin begin.Init) c before after r s p q = one_init law before after r s p q
row_once law (deed.Begin (begin.Drill seed count)) c before after r s p q = absurd c
row_once law (deed.Work w) c before after r s p q = one_on law (work_row w).does before after r s (work_once law w c before after r s) p q

one_owed : HeldIsOne → (v : Visit) (p : Plan) (r s : Reply) → ((d : Deed) → p ≡ plan.On d → (row d).certain × IsTrue v.tells_one × IsTrue v.tells_two)
    → OwedPlan v p r → OwedPlan v p s → r ≡ s
one_owed law v (plan.Reply t) r s of p q = p.0 ∙ sym q.0
one_owed law v (plan.On d) r s of p q =
    let c = of d refl in row_once law d c.0 v.before v.after r s (of_told v (Done (row d) r) p c.1 c.2) (of_told v (Done (row d) s) q c.1 c.2)

pub owed_once : HeldIsOne → (told : Option (List ℕ → Option (List ℕ))) (v : Visit) (words : List (List ℕ)) (r s : Reply) → IsCertain told v.tells_one v.tells_two words
    → IsOwed told v words r → IsOwed told v words s → r ≡ s
owed_once law told v words r s of p q =
    one_owed law v p.0 r s (λ d is. of.1 d (subst (λ (x : Plan). Plans told (command_of words) x) is p.1)) p.2
    (subst (λ (x : Plan). OwedPlan v x s) (one_plan told (command_of words) q.0 p.0 of.0 q.1 p.1) q.2)
