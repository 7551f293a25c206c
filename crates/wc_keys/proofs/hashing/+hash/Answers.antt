use Rattle.std.proofs.Common.{List, ℕ, ◌++◌, length, ap, sym, ◌∙◌}
use Rattle.wc_value.specs.Spelling.{spelling, text, pair_of}
use Rattle.wc_value.proofs.Spelled.{spelled_list, spelled_dict}
use Rattle.wc_keys.proofs.Added.{adds_as, adds_both, front_begun, front_more, front_whole}
use Rattle.wc_keys.proofs.hashing.+hash.Goals as goal

pub put_values-loop-item-init : goal.put_values-loop-item-init
put_values-loop-item-init t c =
    front_begun spelling 4 c.as_slice-item-items.result.now c.len.result c.args.hasher.now c.put_byte.new.hasher c.put_count.new.hasher c.put_byte.ensures c.put_count.ensures
    (c.len.ensures.value ∙ ap length (sym c.as_slice-item-items.ensures))

pub put_values-loop-item-preserved : goal.put_values-loop-item-preserved
put_values-loop-item-preserved t c =
    front_more spelling 4 c.as_slice-item-items.result.now c.loop-item.item-index c.item-item.result c.args.hasher.now c.loop-item.hasher c.put_value.new.hasher c.loop-item-test.true
    c.loop-item.invariant (adds_as _ _ _ _ (ap spelling c.item-item.is) c.put_value.ensures)

pub put_values-returns : goal.put_values-returns
put_values-returns t c =
    front_whole spelling 4 c.as_slice-item-items.result.now c.args.items.now c.loop-item.item-index _ c.args.hasher.now c.loop-item.hasher c.loop-item.invariant c.loop-item-test.false
    c.as_slice-item-items.ensures (spelled_list c.args.items.now)

pub put_fields-loop-name-init : goal.put_fields-loop-name-init
put_fields-loop-name-init t c =
    front_begun pair_of 5 c.as_slice-name-items.result.now c.len.result c.args.hasher.now c.put_byte.new.hasher c.put_count.new.hasher c.put_byte.ensures c.put_count.ensures
    (c.len.ensures.value ∙ ap length (sym c.as_slice-name-items.ensures.value))

pub put_fields-loop-name-preserved : goal.put_fields-loop-name-preserved
put_fields-loop-name-preserved t c =
    let entry = c.loop-name-item.result in
    front_more pair_of 5 c.as_slice-name-items.result.now c.loop-name.name-index entry c.args.hasher.now c.loop-name.hasher c.put_value.new.hasher c.loop-name-test.true c.loop-name.invariant
    (adds_as _ _ _ _ (ap (λ (t : List ℕ). text t ++ spelling entry.1) c.bytes.ensures.value ∙ ap pair_of c.loop-name-item.is) (adds_both _ _ _ _ _ c.put_text.ensures c.put_value.ensures))

pub put_fields-returns : goal.put_fields-returns
put_fields-returns t c =
    front_whole pair_of 5 c.as_slice-name-items.result.now c.args.fields.now c.loop-name.name-index _ c.args.hasher.now c.loop-name.hasher c.loop-name.invariant c.loop-name-test.false
    c.as_slice-name-items.ensures.value (spelled_dict c.args.fields.now)
