use Rattle.std.proofs.Common.{◌≡◌, ℕ, true, false, List, get_or, ap, sym, ◌∙◌, subst}
use Rattle.std.proofs.lemmas.Result.{IfOk-weaker}
use Rattle.wc_matches.specs.Joins.{IsJoined}
use Rattle.wc_matches.specs.Numbers.{AreNumbers}
use Rattle.wc_matches.specs.Ways.{IsWay, ends_from}
use Rattle.wc_matches.specs.Masks.{masked}
use Rattle.wc_matches.proofs.Ends.{ends_are}
use Rattle.wc_matches.proofs.Masked.{masked_are}
use Rattle.wc_matches.proofs.level.nexts.Goals as goal

pub returns-in-Ends-clause-nexts : goal.returns-in-Ends-clause-nexts
returns-in-Ends-clause-nexts c =
    let links = c.args.graph.now.links in
    let join = c.args.join.now in
    let set = c.args.set.now in
    let node = c.args.node in
    let ends = c.in-Ends.ends.items in
    let columns = c.in-Ends.columns in
    let way = subst (IsWay links join set) c.in-Ends.is c.requires.way in
    IfOk-weaker c.ends_from.result _ _
    (λ ids h. subst (AreNumbers (λ m. IsJoined links join node m × (get_or set m false ≡ true)))
    (sym (h ∙ ap (λ (es : List ℕ). ends_from es c.as_slice.result.now node) c.deref-in-Ends.ensures.value ∙ ap (λ cs. ends_from ends cs node) c.as_slice.ensures))
    (ends_are (IsJoined links join) set ends columns node way.0 way.1))
    c.ends_from.ensures

pub returns-in-Masks-clause-nexts : goal.returns-in-Masks-clause-nexts
returns-in-Masks-clause-nexts c =
    let links = c.args.graph.now.links in
    let join = c.args.join.now in
    let set = c.args.set.now in
    let node = c.args.node in
    let ends = c.in-Masks.ends.items in
    let masks = c.in-Masks.masks.items in
    let way = subst (IsWay links join set) c.in-Masks.is c.requires.way in
    IfOk-weaker c.masked_ends.result _ _
    (λ ids h. subst (AreNumbers (λ m. IsJoined links join node m × (get_or set m false ≡ true)))
    (sym (h ∙ ap (λ (es : List ℕ). masked es 0 (get_or c.deref-in-Masks-2.result.now node 0)) c.deref-in-Masks.ensures.value
    ∙ ap (λ (ms : List ℕ). masked ends 0 (get_or ms node 0)) c.deref-in-Masks-2.ensures.value))
    (masked_are links join set ends masks node way.0 way.1))
    c.masked_ends.ensures
