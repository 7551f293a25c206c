use Rattle.std.proofs.Common.{◌≡◌, ℕ, ◌+◌, ◌-◌, ◌∙◌, [], get_or, drop, vec_capacity, refl, subst, arith}
use Rattle.wc_keys.specs.Gaps.{HasGap}
use Rattle.std.proofs.lemmas.List.{get_or_default}
use Rattle.wc_keys.specs.declared.entries.Sealed.{Sealed}
use Rattle.wc_keys.specs.Order.{earlier, joined}
use Rattle.wc_keys.proofs.Gaps.{front_sorted, no_gap}
use Rattle.wc_keys.proofs.Joined.{sorted_joined}
use Rattle.wc_keys.proofs.Moving.{move_gap, move_none}
use Rattle.wc_keys.proofs.Orders.{in_order}
use Rattle.wc_keys.proofs.lists.join.Goals as goal

abbrev none : Sealed
none = record { digest = []; pid = 0 }

pub put_in_gap-at-requires-clause-order : goal.put_in_gap-at-requires-clause-order
put_in_gap-at-requires-clause-order c =
    let l = c.loop-gap in
    let all = joined c.args.long.now.items (drop l.gap c.args.seals.now) in
    front_sorted earlier in_order l.long.items all l.at l.gap l.invariant.gap (sorted_joined c.args.long.now.items (drop l.gap c.args.seals.now) c.requires.long_order)

pub loop-gap-preserved : goal.loop-gap-preserved
loop-gap-preserved c =
    let l = c.loop-gap in
    let i = l.invariant in
    let long = c.args.long.now.items in
    let short = c.args.seals.now in
    let places = vec_capacity c.args.long.now in
    let s = get_or short (l.gap - 1) none in
    let to = c.put_in_gap-at.result in
    let new = c.put_in_gap-at.new.long.items in
    let e = c.put_in_gap-at.ensures in
    let left = l.gap - 1 in
    let one : l.gap ≡ left + 1 = omega (arith, c.loop-gap-test.true) in
    let is : get_or short left s ≡ s = get_or_default short left s none (omega (arith, one, i.left)) in
    record {
      short = refl;
      left = omega (arith, i.left);
      gap = move_gap long short places c.requires l.gap left one i.left s is l.long.items new l.at to i.gap e.place i.none e.puts;
      none = move_none long short places c.requires l.gap left one i.left s is l.long.items new l.at to i.gap e.place i.none e.puts;
      capacity = e.capacity ∙ i.capacity;
    }

pub returns-clause-items : goal.returns-clause-items
returns-clause-items c =
    let l = c.loop-gap in
    let short = c.args.seals.now in
    let none : l.gap ≡ 0 = omega (arith, c.loop-gap-test.false) in
    no_gap l.long.items (joined c.args.long.now.items short) l.at
    (subst (λ (n : ℕ). HasGap l.long.items (joined c.args.long.now.items (drop n short)) l.at n) none l.invariant.gap)
