use Rattle.std.proofs.Common.{◌≡◌, ◌<◌, ◌∙◌, List, length, vec_capacity, vec_len, ap, subst, arith}
use Rattle.std.specs.Prelude.{slice_get, if◌then◌else◌}
use Rattle.std.specs.List.{insert}
use Rattle.std.proofs.lemmas.List.Edits.{length-insert}
use Rattle.wc_records.specs.Marked.{IsPlace, is_item, marked}
use Rattle.wc_records.proofs.Marks.{left_alone, put_in, taken_out, item_within}
use Rattle.wc_keys.specs.declared.entries.Sealed.{Sealed}
use Rattle.wc_keys.specs.Order.{earlier, is_seal}
use Rattle.wc_keys.proofs.Orders.{in_order, seal_tests}
use Rattle.wc_keys.proofs.entries.mark.Goals as goal

pub returns-then-is_at-wanted-clause-items : goal.returns-then-is_at-wanted-clause-items
returns-then-is_at-wanted-clause-items c =
    let xs = c.args.seals.now.items in
    let d = c.args.seal in
    let at = c.place_in-at.result in
    let place = subst (λ (ys : List Sealed). IsPlace earlier d ys at) c.as_slice.ensures.value c.place_in-at.ensures in
    let there = c.is_at.ensures ∙ ap (λ (ys : List Sealed). is_item (is_seal c.args.seal.digest c.args.seal.pid) (slice_get ys at)) c.as_slice-2.ensures.value in
    left_alone earlier in_order (is_seal c.args.seal.digest c.args.seal.pid) d (seal_tests d) xs at place c.is_at.result c.args.wanted there c.if-is_at-wanted.true

pub remove-requires : goal.remove-requires
remove-requires c =
    let xs = c.args.seals.now.items in
    let at = c.place_in-at.result in
    let there = c.is_at.ensures ∙ ap (λ (ys : List Sealed). is_item (is_seal c.args.seal.digest c.args.seal.pid) (slice_get ys at)) c.as_slice-2.ensures.value in
    let lt = item_within (is_seal c.args.seal.digest c.args.seal.pid) xs at c.is_at.result c.args.wanted there c.if-is_at-wanted.false c.if-wanted.false in
    omega (arith, lt, ap length c.as_slice.ensures.value, c.as_slice.ensures.len)

abbrev Put : goal.After-insert-in_room → Type 0
Put c = (insert c.args.seals.now.items c.place_in-at.result c.args.seal ≡ marked earlier c.args.seal c.args.wanted c.args.seals.now.items)
    × (vec_len c.args.seals.now < vec_capacity c.args.seals.now)

put : (c : goal.After-insert-in_room) → Put c
put c =
    let xs = c.args.seals.now.items in
    let d = c.args.seal in
    let at = c.place_in-at.result in
    let place = subst (λ (ys : List Sealed). IsPlace earlier d ys at) c.as_slice.ensures.value c.place_in-at.ensures in
    let there = c.is_at.ensures ∙ ap (λ (ys : List Sealed). is_item (is_seal c.args.seal.digest c.args.seal.pid) (slice_get ys at)) c.as_slice-2.ensures.value in
    let e : insert xs at d ≡ marked earlier d c.args.wanted xs = put_in earlier in_order (is_seal c.args.seal.digest c.args.seal.pid) d (seal_tests d) xs at place c.is_at.result c.args.wanted there c.if-is_at-wanted.false c.if-wanted.true in
    (e, omega (arith, ap length c.as_slice.ensures.value, c.as_slice.ensures.len, length-insert xs at d place.within, ap length e, c.requires.room))

pub returns-then-wanted-clause-items : goal.returns-then-wanted-clause-items
returns-then-wanted-clause-items c =
    let xs = c.args.seals.now.items in
    let e = put c in
    c.insert-in_room.ensures.items ∙ ap (λ b. if b then insert xs c.place_in-at.result c.args.seal else xs) (c.insert-in_room.ensures.succeeds e.1) ∙ e.0

pub returns-then-wanted-clause-capacity : goal.returns-then-wanted-clause-capacity
returns-then-wanted-clause-capacity c = (c.insert-in_room.ensures.in_place (put c).1).1.0

pub returns-else-wanted-clause-items : goal.returns-else-wanted-clause-items
returns-else-wanted-clause-items c =
    let xs = c.args.seals.now.items in
    let d = c.args.seal in
    let at = c.place_in-at.result in
    let place = subst (λ (ys : List Sealed). IsPlace earlier d ys at) c.as_slice.ensures.value c.place_in-at.ensures in
    let there = c.is_at.ensures ∙ ap (λ (ys : List Sealed). is_item (is_seal c.args.seal.digest c.args.seal.pid) (slice_get ys at)) c.as_slice-2.ensures.value in
    c.remove.ensures.items ∙ taken_out earlier in_order (is_seal c.args.seal.digest c.args.seal.pid) d (seal_tests d) xs at place c.is_at.result c.args.wanted there c.if-is_at-wanted.false c.if-wanted.false
