use Rattle.std.proofs.Common.{List, ℕ, ◌<◌, length, vec_capacity, ap, sym, subst, ◌∙◌}
use Rattle.wc_records.specs.Marked.{IsSorted}
use Rattle.wc_keys.specs.declared.entries.Sealed.{Sealed}
use Rattle.wc_keys.specs.Order.{earlier, with_digest}
use Rattle.wc_keys.proofs.Joined.{sorted_joined}
use Rattle.wc_keys.proofs.TwoLists.{is_none, is_some, part_short, part_long}
use Rattle.wc_keys.proofs.seals.Seals.part.Goals as goal

pub returns-then-is_empty-clause-part : goal.returns-then-is_empty-clause-part
returns-then-is_empty-clause-part c =
    let digest = c.args.digest.now in
    let i = c.self.inside in
    let none = sym (c.part_of-short.ensures ∙ ap (with_digest digest) c.as_slice.ensures.value) ∙ is_none c.part_of-short.result.now c.is_empty.result c.is_empty.ensures c.if-is_empty.true in
    c.part_of.ensures ∙ ap (with_digest digest) c.as_slice-then-is_empty.ensures.value
    ∙ part_long i.long.items i.short.items (vec_capacity i.long) c.self.invariant digest none
    ∙ ap (λ (p : List Sealed × ℕ). with_digest digest p.0) c.self.view_is

pub returns-then-is_empty-clause-order : goal.returns-then-is_empty-clause-order
returns-then-is_empty-clause-order c =
    let i = c.self.inside in
    subst (λ (p : List Sealed × ℕ). IsSorted earlier p.0) c.self.view_is (sorted_joined i.long.items i.short.items c.self.invariant.long_order)

pub returns-else-is_empty-clause-part : goal.returns-else-is_empty-clause-part
returns-else-is_empty-clause-part c =
    let digest = c.args.digest.now in
    let i = c.self.inside in
    let is = c.part_of-short.ensures ∙ ap (with_digest digest) c.as_slice.ensures.value in
    let some = is_some c.part_of-short.result.now c.is_empty.result c.is_empty.ensures c.if-is_empty.false in
    is ∙ part_short i.long.items i.short.items (vec_capacity i.long) c.self.invariant digest (subst (λ (xs : List Sealed). 0 < length xs) is some)
    ∙ ap (λ (p : List Sealed × ℕ). with_digest digest p.0) c.self.view_is

pub returns-else-is_empty-clause-order : goal.returns-else-is_empty-clause-order
returns-else-is_empty-clause-order c =
    let i = c.self.inside in
    subst (λ (p : List Sealed × ℕ). IsSorted earlier p.0) c.self.view_is (sorted_joined i.long.items i.short.items c.self.invariant.long_order)
