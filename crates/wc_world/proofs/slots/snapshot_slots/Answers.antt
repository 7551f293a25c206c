use Rattle.std.proofs.Common.{◌∙◌, ap, sym}
use Rattle.wc_world.specs.Slots.{filled}
use Rattle.wc_world.proofs.Slotted.{slots_tell}
use Rattle.wc_world.proofs.slots.snapshot_slots.Goals as goal

pub returns : goal.returns
returns c =
    slots_tell c.args.changes.now _ (sym c.in_ok-ordered.ensures.ordered ∙ c.if-not-ordered.false)
    (c.filled.ensures ∙ (λ i. filled (c.in_ok-ordered.ensures.slots i) (c.as_slice.ensures.value i)) ∙ ap (filled _) c.in_ok-ordered.ensures.kepts)
