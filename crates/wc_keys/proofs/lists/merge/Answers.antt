use Rattle.std.proofs.Common.{List, ◌∙◌, vec_capacity, sym, ap, subst}
use Rattle.std.specs.Prelude.{filter, not}
use Rattle.wc_keys.specs.declared.entries.Sealed.{Sealed}
use Rattle.wc_keys.specs.Order.{is_in, joined, AreApart}
use Rattle.wc_keys.proofs.TwoLists.{left_joined, left_apart}
use Rattle.wc_keys.proofs.lists.merge.Goals as goal

pub join-requires : goal.join-requires
join-requires c =
    let long = c.args.long.now.items in
    let short = c.args.short.now.items in
    let places = vec_capacity c.args.long.now in
    subst (λ (xs : List Sealed). AreApart long xs places) (sym (c.as_slice-2.ensures.value ∙ c.drop_known.ensures.items ∙ ap (λ (xs : List Sealed). filter (λ (s : Sealed). not (is_in s.digest s.pid xs)) short) c.as_slice.ensures.value)) (left_apart long short places c.requires)

pub returns-clause-items : goal.returns-clause-items
returns-clause-items c =
    let long = c.args.long.now.items in
    let short = c.args.short.now.items in
    c.join.ensures.items ∙ ap (joined long) (c.as_slice-2.ensures.value ∙ c.drop_known.ensures.items ∙ ap (λ (xs : List Sealed). filter (λ (s : Sealed). not (is_in s.digest s.pid xs)) short) c.as_slice.ensures.value) ∙ left_joined long short (vec_capacity c.args.long.now) c.requires
