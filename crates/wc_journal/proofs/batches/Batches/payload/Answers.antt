use Rattle.std.proofs.Common.{◌∙◌, ◌<◌, ◌+◌, Some, ℕ, List, length, take, drop, get_or, sym, ap, arith, slice_get}
use Rattle.wc_journal.specs.Framing.{BatchImage}
use Rattle.wc_journal.proofs.Loading.{count_placed, within_at, payload_placed}
use Rattle.wc_journal.proofs.batches.Batches.payload.Goals as goal

pub part-requires : goal.part-requires
part-requires c =
    let frames = c.self.inside.frames in
    let count = count_placed c.self.inside.image.items frames in
    let lt : c.args.at < length frames = omega (arith, c.requires, count, ap (λ (b : BatchImage). length b.placed) c.self.view_is) in
    let whole = within_at c.self.inside.image.items (0, 0) frames c.args.at lt c.self.invariant in
    let same = ap (λ (fs : List (ℕ × ℕ)). (get_or fs c.args.at (0, 0)).0 + (get_or fs c.args.at (0, 0)).1) c.as_slice.ensures in
    omega (arith, whole, same, ap length c.deref.ensures.value)

pub returns : goal.returns
returns c =
    let frames = c.self.inside.frames in
    let count = count_placed c.self.inside.image.items frames in
    let lt : c.args.at < length frames = omega (arith, c.requires, count, ap (λ (b : BatchImage). length b.placed) c.self.view_is) in
    let taken = c.part.ensures
    ∙ (λ i. take (get_or (c.as_slice.ensures i) c.args.at (0, 0)).1 (drop (get_or (c.as_slice.ensures i) c.args.at (0, 0)).0 (c.deref.ensures.value i))) in
    ap (λ (b : BatchImage). slice_get b.placed c.args.at) (sym c.self.view_is) ∙ payload_placed c.self.inside.image.items (0, 0) frames c.args.at lt
    ∙ (λ i. Some ((get_or (sym c.as_slice.ensures i) c.args.at (0, 0)).0, sym taken i))
