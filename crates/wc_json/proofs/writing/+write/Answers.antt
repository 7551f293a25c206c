use Rattle.std.proofs.Common.{ap, ◌∙◌}
use Rattle.serde_json.specs.View.{items_of}
use Rattle.wc_json.specs.Writing.{data_of}
use Rattle.wc_json.proofs.Members.{one_more, all_members, all_elements}
use Rattle.wc_json.proofs.writing.+write.Goals as goal

pub fields_data-loop-name-preserved : goal.fields_data-loop-name-preserved
fields_data-loop-name-preserved t c =
    one_more data_of _ _ c.loop-name-item.result _ _ _ c.in_ok-key.key c.in_ok-json.json c.as_slice-name-items.ensures.ascends c.loop-name-test.true c.loop-name-item.is c.loop-name.invariant
    c.in_ok-insert.ensures.entries (c.in_ok-key.ensures.ok ∙ c.as_str.ensures) c.in_ok-json.ensures

pub fields_data-returns : goal.fields_data-returns
fields_data-returns t c = all_members data_of _ _ _ _ c.loop-name.invariant c.loop-name-test.false c.as_slice-name-items.ensures.value

pub values_data-returns : goal.values_data-returns
values_data-returns t c = all_elements data_of _ _ _ _ (ap items_of c.loop-item.invariant) c.loop-item-test.false c.as_slice-item-items.ensures
