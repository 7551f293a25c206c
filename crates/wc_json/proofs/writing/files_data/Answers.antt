use Rattle.std.proofs.Common.{◌∙◌}
use Rattle.wc_json.specs.Writing.{content_data}
use Rattle.wc_json.proofs.Members.{one_more, all_members}
use Rattle.wc_json.proofs.writing.files_data.Goals as goal

pub loop-name-preserved : goal.loop-name-preserved
loop-name-preserved c =
    one_more content_data _ _ c.loop-name-item.result _ _ _ c.in_ok-key.key c.in_ok-json.json c.as_slice-name-items.ensures.ascends c.loop-name-test.true c.loop-name-item.is c.loop-name.invariant
    c.in_ok-insert.ensures.entries (c.in_ok-key.ensures.ok ∙ c.as_str.ensures) c.in_ok-json.ensures

pub returns : goal.returns
returns c = all_members content_data _ _ _ _ c.loop-name.invariant c.loop-name-test.false c.as_slice-name-items.ensures.value
