use Rattle.std.proofs.Common.{◌≡◌, true, ap, subst, sym, ◌∙◌, rules}
use Rattle.wc_value.specs.Ascending.{Ascends, goes_last}
use Rattle.wc_value.proofs.Entries.{ascends_push}
use Rattle.wc_value.proofs.keyed.Keyed.push.Goals as goal

pub invariant_of-self-2 : goal.invariant_of-self-2
invariant_of-self-2 g c =
    let r : goes_last c.args.item.0 c.self.inside.items.items ≡ true = ap (goes_last c.args.item.0) c.self.view_is ∙ c.requires in
    (subst Ascends (sym c.in_ok-push.ensures.items) (ascends_push c.self.inside.items.items c.args.item c.self.invariant.0 r), search rules)
