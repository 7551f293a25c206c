use Rattle.std.proofs.Common.{[], vec_capacity, arith}
use Rattle.wc_keys.specs.Order.{joined}
use Rattle.wc_keys.proofs.TwoLists.{two_as, merged}
use Rattle.wc_keys.proofs.lists.make_place.Goals as goal

pub returns-clause-two : goal.returns-clause-two
returns-clause-two c =
    let long = c.args.long.now.items in
    let short = c.args.short.now.items in
    let e = c.merge.ensures in
    two_as (joined long short) c.merge.new.long.items [] c.merge.new.short.items (vec_capacity c.args.long.now) (vec_capacity c.merge.new.long) e.items e.emptied (omega (arith, e.capacity))
    (merged long short (vec_capacity c.args.long.now) c.requires)
