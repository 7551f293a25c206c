use Rattle.std.proofs.Common.{◌<◌, ◌+◌, ◌∙◌, drop, length, ap, refl, arith, vec_len, vec_capacity, length-drop}
use Rattle.std.specs.Prelude.{if◌then◌else◌}
use Rattle.std.specs.List.{insert}
use Rattle.wc_records.proofs.Shifts.{dropped_insert}
use Rattle.wc_records.proofs.window.put_behind.Goals as goal

pub returns-clause-items : goal.returns-clause-items
returns-clause-items g c =
    let from = c.free_end-from.result in
    let room : vec_len c.free_end-from.new.places < vec_capacity c.free_end-from.new.places = omega (arith, c.free_end-from.ensures.room, c.free_end-from.new.places.ok.0) in
    ap (drop from)
    (c.insert-in_room.ensures.items
    ∙ ap (λ b. if b then insert c.free_end-from.new.places.items (from + c.args.at) c.args.item else c.free_end-from.new.places.items) (c.insert-in_room.ensures.succeeds room))
    ∙ dropped_insert c.free_end-from.new.places.items from c.args.at (from + c.args.at) c.args.item refl c.free_end-from.ensures.within
    ∙ ap (λ l. insert l c.args.at c.args.item) c.free_end-from.ensures.items

pub insert-in_room-requires : goal.insert-in_room-requires
insert-in_room-requires g c =
    omega (
      arith,
      ap length c.free_end-from.ensures.items,
      length-drop c.free_end-from.result c.free_end-from.new.places.items,
      length-drop c.args.begin c.args.places.now.items,
      c.free_end-from.new.places.ok.0,
      c.free_end-from.ensures.within,
      c.requires.within,
    )
