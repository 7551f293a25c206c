use Rattle.std.proofs.Common.{◌≡◌, ℕ, true, false, List, get_or, sym, subst}
use Rattle.std.proofs.lemmas.Result.{IfOk-weaker}
use Rattle.wc_matches.specs.Numbers.{AreNumbers}
use Rattle.wc_matches.proofs.Placing.{leads_marked}
use Rattle.wc_matches.proofs.sets.leading.Goals as goal

pub returns-clause-leads : goal.returns-clause-leads
returns-clause-leads c =
    IfOk-weaker c.leading_to.result _ _
    (λ marks h. leads_marked c.args.graph.now.links c.args.join.now c.args.set.now marks.items c.deref.result.now
    (subst (λ (xs : List ℕ). AreNumbers (λ m. get_or c.args.set.now m false ≡ true) xs) (sym c.deref.ensures.value) c.in_ok-ends.ensures) h)
    c.leading_to.ensures.leads
