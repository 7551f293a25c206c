use Rattle.std.proofs.Common.{◌≡◌, ◌≤◌, ◌<◌, ◌+◌, true, List, ◌∙◌, length, vec_capacity, sym, ap, subst, arith}
use Rattle.wc_keys.specs.declared.entries.Sealed.{Sealed}
use Rattle.wc_keys.specs.Order.{is_in, with_digest, joined, AreApart, AreTwo}
use Rattle.wc_keys.proofs.Joined.{length_joined}
use Rattle.wc_keys.proofs.TwoLists.{is_none, is_some, all_there, none_there, part_apart, copied_joined, copied_two, copied_all}
use Rattle.wc_keys.proofs.lists.gather.Goals as goal

pub returns-then-not-is_empty-clause-all : goal.returns-then-not-is_empty-clause-all
returns-then-not-is_empty-clause-all c = λ e.
    let some = is_some c.part_of.result.now c.is_empty.result c.is_empty.ensures c.if-not-is_empty.true in
    all_there c.args.long.now c.args.short.now.items c.requires.two.0 c.requires.two.1 c.args.digest.now
    (subst (λ (xs : List Sealed). 0 < length xs) (c.part_of.ensures ∙ ap (with_digest c.args.digest.now) c.as_slice.ensures.value) some)

pub returns-then-not-are_copied-clause-none : goal.returns-then-not-are_copied-clause-none
returns-then-not-are_copied-clause-none c = λ e.
    let none = is_none c.part_of.result.now c.is_empty.result c.is_empty.ensures c.if-not-is_empty.false in
    none_there c.args.long.now c.args.short.now.items c.requires.two.0 c.requires.two.1 c.args.digest.now
    (sym (c.part_of.ensures ∙ ap (with_digest c.args.digest.now) c.as_slice.ensures.value) ∙ none)

pub returns-then-capacity-len-clause-none : goal.returns-then-capacity-len-clause-none
returns-then-capacity-len-clause-none c = λ e.
    let none = is_none c.part_of.result.now c.is_empty.result c.is_empty.ensures c.if-not-is_empty.false in
    none_there c.args.long.now c.args.short.now.items c.requires.two.0 c.requires.two.1 c.args.digest.now
    (sym (c.part_of.ensures ∙ ap (with_digest c.args.digest.now) c.as_slice.ensures.value) ∙ none)

pub join-requires : goal.join-requires
join-requires c =
    let short = c.args.short.now in
    let none = sym (c.part_of.ensures ∙ ap (with_digest c.args.digest.now) c.as_slice.ensures.value) ∙ is_none c.part_of.result.now c.is_empty.result c.is_empty.ensures c.if-not-is_empty.false in
    let fit : length short.items + length (with_digest c.args.digest.now c.args.long.now) ≤ vec_capacity short
    = omega (arith, ap length c.part_of-part.ensures, c.if-capacity-len.false, c.capacity.ensures, c.len.ensures, short.ok.0, short.ok.1) in
    subst (λ (xs : List Sealed). AreApart short.items xs (vec_capacity short)) (sym c.part_of-part.ensures)
    (part_apart c.args.long.now short.items c.requires.two.0 c.requires.two.1 c.args.digest.now none (vec_capacity short) fit)

pub returns-clause-two : goal.returns-clause-two
returns-clause-two c = λ places h.
    let none = sym (c.part_of.ensures ∙ ap (with_digest c.args.digest.now) c.as_slice.ensures.value) ∙ is_none c.part_of.result.now c.is_empty.result c.is_empty.ensures c.if-not-is_empty.false in
    subst (λ (xs : List Sealed). AreTwo c.args.long.now xs places) (sym (c.join.ensures.items ∙ ap (joined c.args.short.now.items) c.part_of-part.ensures))
    (copied_two c.args.long.now c.args.short.now.items places h c.args.digest.now none)

pub returns-clause-same : goal.returns-clause-same
returns-clause-same c =
    let none = sym (c.part_of.ensures ∙ ap (with_digest c.args.digest.now) c.as_slice.ensures.value) ∙ is_none c.part_of.result.now c.is_empty.result c.is_empty.ensures c.if-not-is_empty.false in
    ap (joined c.args.long.now) (c.join.ensures.items ∙ ap (joined c.args.short.now.items) c.part_of-part.ensures)
    ∙ copied_joined c.args.long.now c.args.short.now.items c.requires.two.0 c.requires.two.1 c.args.digest.now none

pub returns-clause-place : goal.returns-clause-place
returns-clause-place c = λ e.
    let short = c.args.short.now in
    let part = with_digest c.args.digest.now c.args.long.now in
    let none = sym (c.part_of.ensures ∙ ap (with_digest c.args.digest.now) c.as_slice.ensures.value) ∙ is_none c.part_of.result.now c.is_empty.result c.is_empty.ensures c.if-not-is_empty.false in
    let fit : length short.items + length part ≤ vec_capacity short
    = omega (arith, ap length c.part_of-part.ensures, c.if-capacity-len.false, c.capacity.ensures, c.len.ensures, short.ok.0, short.ok.1) in
    let a = part_apart c.args.long.now short.items c.requires.two.0 c.requires.two.1 c.args.digest.now none (vec_capacity short) fit in
    let count = length_joined short.items part a.long_order a.short_order a.apart in
    let items = ap length (c.join.ensures.items ∙ ap (joined short.items) c.part_of-part.ensures) in
    omega (arith, count, items, ap length c.part_of-part.ensures, c.join.ensures.capacity, c.capacity.ensures, c.len.ensures, c.if-capacity-len.false, short.ok.0, short.ok.1)

pub returns-clause-all : goal.returns-clause-all
returns-clause-all c = λ e pid there.
    let none = sym (c.part_of.ensures ∙ ap (with_digest c.args.digest.now) c.as_slice.ensures.value) ∙ is_none c.part_of.result.now c.is_empty.result c.is_empty.ensures c.if-not-is_empty.false in
    subst (λ (xs : List Sealed). is_in c.args.digest.now pid xs ≡ true) (sym (c.join.ensures.items ∙ ap (joined c.args.short.now.items) c.part_of-part.ensures))
    (copied_all c.args.long.now c.args.short.now.items c.requires.two.0 c.requires.two.1 c.args.digest.now none pid there)
