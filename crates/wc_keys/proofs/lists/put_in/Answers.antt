use Rattle.std.proofs.Common.{◌≡◌, ◌∙◌, ℕ, true, false, List, length, vec_capacity, refl, sym, ap, subst, arith}
use Rattle.wc_records.specs.Marked.{marked}
use Rattle.wc_records.proofs.Standing.{length_marked}
use Rattle.wc_keys.specs.declared.entries.Sealed.{Sealed}
use Rattle.wc_keys.specs.Order.{earlier, is_seal, is_in, joined, AreTwo}
use Rattle.wc_keys.proofs.Exact.{or_right}
use Rattle.wc_keys.proofs.Joined.{or_left, long_within, stays_joined, short_joined, long_joined}
use Rattle.wc_keys.proofs.Orders.{in_order, seal_tests}
use Rattle.wc_keys.proofs.TwoLists.{two_as, short_two, long_two}
use Rattle.wc_keys.proofs.lists.put_in.Goals as goal

pub returns-then-contains-clause-items : goal.returns-then-contains-clause-items
returns-then-contains-clause-items c =
    let s = c.args.seal in
    let long = c.args.long.now.items in
    let short = c.args.short.now.items in
    let there = sym (c.contains.ensures ∙ ap (is_in s.digest s.pid) c.as_slice.ensures.value) ∙ c.if-contains.true in
    stays_joined s long short c.requires.two.long_order c.requires.two.short_order (or_left (is_in s.digest s.pid long) (is_in s.digest s.pid short) there)

pub returns-then-contains-2-clause-items : goal.returns-then-contains-2-clause-items
returns-then-contains-2-clause-items c =
    let s = c.args.seal in
    let long = c.args.long.now.items in
    let short = c.args.short.now.items in
    let there = sym (c.contains-2.ensures ∙ ap (is_in s.digest s.pid) c.as_slice-2.ensures.value) ∙ c.if-contains-2.true in
    stays_joined s long short c.requires.two.long_order c.requires.two.short_order (or_right (is_in s.digest s.pid long) (is_in s.digest s.pid short) there)

pub mark-requires-clause-room : goal.mark-requires-clause-room
mark-requires-clause-room c =
    let s = c.args.seal in
    let long = c.make_place.new.long in
    let two = c.gather.ensures.two (vec_capacity long) (subst (λ (xs : List Sealed). AreTwo xs c.make_place.new.short.items (vec_capacity long)) (sym c.as_slice-4.ensures.value) c.make_place.ensures.two) in
    let marks = length_marked earlier in_order (is_seal s.digest s.pid) s (seal_tests s) true c.gather.new.short.items two.short_order in
    omega (arith, marks, c.gather.ensures.place c.if-gather.true)

pub mark-requires-else-gather-clause-room : goal.mark-requires-else-gather-clause-room
mark-requires-else-gather-clause-room c =
    let s = c.args.seal in
    let long = c.make_place.new.long in
    let e = c.make_place.ensures in
    let marks = length_marked earlier in_order (is_seal s.digest s.pid) s (seal_tests s) true long.items e.two.long_order in
    omega (arith, marks, long_within long.items c.make_place.new.short.items e.two.long_order, ap length e.same, c.requires.room, e.capacity)

pub returns-then-gather-clause-two : goal.returns-then-gather-clause-two
returns-then-gather-clause-two c =
    let s = c.args.seal in
    let long = c.make_place.new.long in
    let short = c.gather.new.short.items in
    let places = vec_capacity long in
    let at = c.as_slice-4.ensures.value in
    let digest = c.as_slice-5.ensures in
    let two = subst (λ (xs : List Sealed). AreTwo xs short places) at
    (c.gather.ensures.two places (subst (λ (xs : List Sealed). AreTwo xs c.make_place.new.short.items places) (sym at) c.make_place.ensures.two)) in
    let same : joined long.items short ≡ joined long.items c.make_place.new.short.items
    = ap (λ (xs : List Sealed). joined xs short) (sym at) ∙ c.gather.ensures.same ∙ ap (λ (xs : List Sealed). joined xs c.make_place.new.short.items) at in
    let all : (p : ℕ) → is_in s.digest p long.items ≡ true → is_in s.digest p short ≡ true
    = λ p there. ap (λ (d : List ℕ). is_in d p short) (sym digest) ∙ c.gather.ensures.all c.if-gather.true p ((λ i. is_in (digest i) p (at i)) ∙ there) in
    two_as long.items long.items (marked earlier s true short) c.mark.new.seals.items places places refl c.mark.ensures.items (omega arith)
    (short_two long.items short places two s (omega (arith, ap length same, ap length c.make_place.ensures.same, c.requires.room, c.make_place.ensures.capacity)) all)

pub returns-then-gather-clause-items : goal.returns-then-gather-clause-items
returns-then-gather-clause-items c =
    let s = c.args.seal in
    let long = c.make_place.new.long in
    let short = c.gather.new.short.items in
    let places = vec_capacity long in
    let at = c.as_slice-4.ensures.value in
    let two = subst (λ (xs : List Sealed). AreTwo xs short places) at
    (c.gather.ensures.two places (subst (λ (xs : List Sealed). AreTwo xs c.make_place.new.short.items places) (sym at) c.make_place.ensures.two)) in
    let same : joined long.items short ≡ joined long.items c.make_place.new.short.items
    = ap (λ (xs : List Sealed). joined xs short) (sym at) ∙ c.gather.ensures.same ∙ ap (λ (xs : List Sealed). joined xs c.make_place.new.short.items) at in
    ap (joined long.items) c.mark.ensures.items ∙ short_joined s long.items short two.long_order two.short_order ∙ ap (marked earlier s true) (same ∙ c.make_place.ensures.same)

pub returns-else-gather-clause-two : goal.returns-else-gather-clause-two
returns-else-gather-clause-two c =
    let s = c.args.seal in
    let long = c.make_place.new.long in
    let short = c.gather.new.short.items in
    let places = vec_capacity long in
    let at = c.as_slice-4.ensures.value in
    let digest = c.as_slice-5.ensures in
    let mark = c.mark-else-gather in
    let two = subst (λ (xs : List Sealed). AreTwo xs short places) at
    (c.gather.ensures.two places (subst (λ (xs : List Sealed). AreTwo xs c.make_place.new.short.items places) (sym at) c.make_place.ensures.two)) in
    let same : joined long.items short ≡ joined long.items c.make_place.new.short.items
    = ap (λ (xs : List Sealed). joined xs short) (sym at) ∙ c.gather.ensures.same ∙ ap (λ (xs : List Sealed). joined xs c.make_place.new.short.items) at in
    let none : (p : ℕ) → is_in s.digest p short ≡ false
    = λ p. ap (λ (d : List ℕ). is_in d p short) (sym digest) ∙ c.gather.ensures.none c.if-gather.false p in
    two_as (marked earlier s true long.items) mark.new.seals.items short short places (vec_capacity mark.new.seals) mark.ensures.items refl (omega (arith, mark.ensures.capacity))
    (long_two long.items short places two s (omega (arith, ap length same, ap length c.make_place.ensures.same, c.requires.room, c.make_place.ensures.capacity)) none)

pub returns-else-gather-clause-items : goal.returns-else-gather-clause-items
returns-else-gather-clause-items c =
    let s = c.args.seal in
    let long = c.make_place.new.long in
    let short = c.gather.new.short.items in
    let places = vec_capacity long in
    let at = c.as_slice-4.ensures.value in
    let two = subst (λ (xs : List Sealed). AreTwo xs short places) at
    (c.gather.ensures.two places (subst (λ (xs : List Sealed). AreTwo xs c.make_place.new.short.items places) (sym at) c.make_place.ensures.two)) in
    let same : joined long.items short ≡ joined long.items c.make_place.new.short.items
    = ap (λ (xs : List Sealed). joined xs short) (sym at) ∙ c.gather.ensures.same ∙ ap (λ (xs : List Sealed). joined xs c.make_place.new.short.items) at in
    ap (λ (xs : List Sealed). joined xs short) c.mark-else-gather.ensures.items ∙ long_joined s long.items short two.long_order two.short_order
    ∙ ap (marked earlier s true) (same ∙ c.make_place.ensures.same)
