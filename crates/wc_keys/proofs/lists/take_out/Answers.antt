use Rattle.std.proofs.Common.{◌∙◌, false, vec_capacity, arith}
use Rattle.wc_records.specs.Marked.{marked}
use Rattle.wc_records.proofs.Standing.{length_marked}
use Rattle.wc_keys.specs.Order.{earlier, is_seal, joined}
use Rattle.wc_keys.proofs.Joined.{out_joined}
use Rattle.wc_keys.proofs.TwoLists.{two_as, out_two}
use Rattle.wc_keys.proofs.Orders.{in_order, seal_tests}
use Rattle.wc_keys.proofs.lists.take_out.Goals as goal

pub mark-requires-clause-room : goal.mark-requires-clause-room
mark-requires-clause-room c =
    let long = c.args.long.now in
    let marks = length_marked earlier in_order (is_seal c.args.seal.digest c.args.seal.pid) c.args.seal (seal_tests c.args.seal) false long.items c.requires.long_order in
    omega (arith, marks, long.ok.0, long.ok.1)

pub mark-requires-2-clause-room : goal.mark-requires-2-clause-room
mark-requires-2-clause-room c =
    let short = c.args.short.now in
    let marks = length_marked earlier in_order (is_seal c.args.seal.digest c.args.seal.pid) c.args.seal (seal_tests c.args.seal) false short.items c.requires.short_order in
    omega (arith, marks, short.ok.0, short.ok.1)

pub returns-clause-two : goal.returns-clause-two
returns-clause-two c =
    let s = c.args.seal in
    let long = c.args.long.now.items in
    let short = c.args.short.now.items in
    let places = vec_capacity c.args.long.now in
    two_as (marked earlier s false long) c.mark.new.seals.items (marked earlier s false short) c.mark-2.new.seals.items places (vec_capacity c.mark.new.seals)
    c.mark.ensures.items c.mark-2.ensures.items (omega (arith, c.mark.ensures.capacity)) (out_two long short places c.requires s)

pub returns-clause-items : goal.returns-clause-items
returns-clause-items c =
    (λ i. joined (c.mark.ensures.items i) (c.mark-2.ensures.items i))
    ∙ out_joined c.args.seal c.args.long.now.items c.args.short.now.items c.requires.long_order c.requires.short_order
