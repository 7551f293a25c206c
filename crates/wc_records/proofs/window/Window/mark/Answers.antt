use Rattle.std.proofs.Common.{◌≤◌, ◌∙◌, length, ap, arith}
use Rattle.std.proofs.lemmas.List.Edits.{length-insert}
use Rattle.wc_records.proofs.Marks.{left_read, put_read, taken_read}
use Rattle.wc_records.proofs.window.Window.mark.Goals as goal

pub returns-then-is_at-wanted-clause-items : goal.returns-then-is_at-wanted-clause-items
returns-then-is_at-wanted-clause-items g c =
    left_read g.T.Ordered.before g.met.T.Ordered.in_line c.args.item c.args.self.now.items c.as_slice.result.now c.as_slice-2.result.now c.place_in-at.result c.is_at.result c.args.wanted
    c.as_slice.ensures c.as_slice-2.ensures c.place_in-at.ensures c.is_at.ensures c.if-is_at-wanted.true

pub put-requires-clause-within : goal.put-requires-clause-within
put-requires-clause-within g c = omega (arith, c.place_in-at.ensures.within, ap length c.as_slice.ensures)

pub put-requires-clause-room : goal.put-requires-clause-room
put-requires-clause-room g c =
    let within : c.place_in-at.result ≤ length c.args.self.now.items = omega (arith, c.place_in-at.ensures.within, ap length c.as_slice.ensures) in
    let e = put_read g.T.Ordered.before g.met.T.Ordered.in_line c.args.item c.args.self.now.items c.as_slice.result.now c.as_slice-2.result.now c.place_in-at.result c.is_at.result c.args.wanted
    c.as_slice.ensures c.as_slice-2.ensures c.place_in-at.ensures c.is_at.ensures c.if-is_at-wanted.false c.if-wanted.true in
    omega (arith, length-insert c.args.self.now.items c.place_in-at.result c.args.item within, ap length e, c.requires.room)

pub returns-then-wanted-clause-items : goal.returns-then-wanted-clause-items
returns-then-wanted-clause-items g c =
    c.put.ensures.items
    ∙ put_read g.T.Ordered.before g.met.T.Ordered.in_line c.args.item c.args.self.now.items c.as_slice.result.now c.as_slice-2.result.now c.place_in-at.result c.is_at.result c.args.wanted
    c.as_slice.ensures c.as_slice-2.ensures c.place_in-at.ensures c.is_at.ensures c.if-is_at-wanted.false c.if-wanted.true

pub take_out-requires : goal.take_out-requires
take_out-requires g c =
    (taken_read g.T.Ordered.before g.met.T.Ordered.in_line c.args.item c.args.self.now.items c.as_slice.result.now c.as_slice-2.result.now c.place_in-at.result c.is_at.result c.args.wanted
    c.as_slice.ensures c.as_slice-2.ensures c.place_in-at.ensures c.is_at.ensures c.if-is_at-wanted.false c.if-wanted.false).0

pub returns-else-wanted-clause-items : goal.returns-else-wanted-clause-items
returns-else-wanted-clause-items g c =
    c.take_out.ensures.items
    ∙ (taken_read g.T.Ordered.before g.met.T.Ordered.in_line c.args.item c.args.self.now.items c.as_slice.result.now c.as_slice-2.result.now c.place_in-at.result c.is_at.result c.args.wanted
    c.as_slice.ensures c.as_slice-2.ensures c.place_in-at.ensures c.is_at.ensures c.if-is_at-wanted.false c.if-wanted.false).1
