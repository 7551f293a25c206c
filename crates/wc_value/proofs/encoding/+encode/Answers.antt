use Rattle.std.proofs.Common.{arith}
use Rattle.wc_value.specs.Spelling.{spelling, pair_of}
use Rattle.wc_value.proofs.Respelled.{list_spelled_at, dict_spelled_at}
use Rattle.wc_value.proofs.Spelled.{spelled_list, spelled_dict, finished}
use Rattle.wc_value.proofs.encoding.+encode.Goals as goal

pub put_values-returns-clause-written : goal.put_values-returns-clause-written
put_values-returns-clause-written t c = finished spelling 4 _ _ _ _ _ _ c.loop-item.invariant.out c.loop-item-test.false c.as_slice-item-items.ensures (spelled_list _)

pub put_fields-returns-clause-written : goal.put_fields-returns-clause-written
put_fields-returns-clause-written t c = finished pair_of 5 _ _ _ _ _ _ c.loop-name.invariant.out c.loop-name-test.false c.as_slice-name-items.ensures.value (spelled_dict _)

pub put_values-returns-clause-spells : goal.put_values-returns-clause-spells
put_values-returns-clause-spells t c =
    list_spelled_at _ _ _ c.as_slice-item-items.ensures c.loop-item-test.false (let e = c.len.ensures.value in let b = c.len.ensures.bound in omega arith) c.loop-item.invariant.spelled

pub put_fields-returns-clause-spells : goal.put_fields-returns-clause-spells
put_fields-returns-clause-spells t c =
    dict_spelled_at _ _ _ c.as_slice-name-items.ensures.value c.loop-name-test.false (let e = c.len.ensures.value in let b = c.len.ensures.bound in omega arith) c.as_slice-name-items.ensures.ascends c.loop-name.invariant.spelled
