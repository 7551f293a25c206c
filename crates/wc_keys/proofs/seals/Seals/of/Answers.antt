use Rattle.std.proofs.Common.{List, [], ◌∙◌, vec_capacity, refl, sym, ap, subst, arith}
use Rattle.wc_records.specs.Marked.{IsSorted}
use Rattle.wc_keys.specs.declared.entries.Sealed.{Sealed}
use Rattle.wc_keys.specs.Order.{earlier, is_in, joined}
use Rattle.wc_keys.proofs.Exact.{sorted_made, same_entries}
use Rattle.wc_keys.proofs.TwoLists.{alone_two, two_as}
use Rattle.wc_keys.proofs.seals.Seals.of.Goals as goal

pub invariant_of-result : goal.invariant_of-result
invariant_of-result c =
    let items = c.sort_unstable.new.self in
    let up = sorted_made c.args.items.items items.items c.requires c.sort_unstable.ensures.permutation c.sort_unstable.ensures.sorted in
    two_as items.items items.items [] c.new-short.result.items (vec_capacity items) (vec_capacity items) refl c.new-short.ensures.items (omega arith)
    (alone_two items.items (vec_capacity items) up (omega (arith, items.ok.0, items.ok.1)))

pub returns-clause-entries : goal.returns-clause-entries
returns-clause-entries c = λ digest pid.
    let items = c.sort_unstable.new.self.items in
    ap (λ (short : List Sealed). is_in digest pid (joined items short)) c.new-short.ensures.items
    ∙ same_entries c.args.items.items items c.sort_unstable.ensures.permutation digest pid

pub returns-clause-order : goal.returns-clause-order
returns-clause-order c =
    let items = c.sort_unstable.new.self.items in
    subst (λ (short : List Sealed). IsSorted earlier (joined items short)) (sym c.new-short.ensures.items)
    (sorted_made c.args.items.items items c.requires c.sort_unstable.ensures.permutation c.sort_unstable.ensures.sorted)
