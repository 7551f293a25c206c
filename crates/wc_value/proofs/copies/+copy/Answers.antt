use Rattle.std.proofs.Common.{◌≡◌, ◌∙◌}
use Rattle.wc_value.proofs.Entries.{ascends_next, last_goes}
use Rattle.wc_value.proofs.copies.+copy.Goals as goal

pub copy_fields-push-requires : goal.copy_fields-push-requires
copy_fields-push-requires t c =
    let es = c.as_slice-name-items in
    let same : (c.in_ok-copy.field-0, c.in_ok-copy_value.field-0) ≡ c.loop-name-item.result
    = λ i. (c.in_ok-copy.ensures i, c.in_ok-copy_value.ensures i) in
    last_goes c.loop-name.copies (c.in_ok-copy.field-0, c.in_ok-copy_value.field-0)
    (ascends_next es.result.now c.loop-name.copies c.loop-name.name-index _ c.loop-name-item.result es.ensures.ascends c.loop-name-test.true c.loop-name.invariant (same ∙ c.loop-name-item.is))
