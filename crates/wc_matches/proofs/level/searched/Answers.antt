use Rattle.std.proofs.Common.{◌&&◌, ℕ, false, List, get_or, ap, ◌∙◌}
use Rattle.wc_matches.specs.Found.{has}
use Rattle.wc_matches.proofs.Placing.{numbers_found}
use Rattle.wc_matches.proofs.level.searched.Goals as goal

pub returns-clause-nexts : goal.returns-clause-nexts
returns-clause-nexts c =
    numbers_found c.args.graph.now.links c.args.join.now c.args.set.now c.args.barred.now c.args.node c.in_ok-found.found.items c.in_ok-ids.ids.items c.put_in_order.new.ids.items
    c.requires.free c.in_ok-found.ensures.exactly
    (λ m. c.in_ok-ids.ensures m ∙ ap (λ (xs : List ℕ). has xs m && get_or c.args.set.now m false) c.deref-2.ensures.value)
    c.put_in_order.ensures.ascend c.put_in_order.ensures.same
