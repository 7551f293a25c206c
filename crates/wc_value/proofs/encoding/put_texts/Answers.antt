use Rattle.std.proofs.Common.{arith}
use Rattle.wc_value.proofs.Requested.{text_value, spelled_texts, texts_spelled_at}
use Rattle.wc_value.proofs.Spelled.{finished}
use Rattle.wc_value.proofs.encoding.put_texts.Goals as goal

pub returns-clause-written : goal.returns-clause-written
returns-clause-written c = finished text_value 4 _ _ _ _ _ _ c.loop-text.invariant.out c.loop-text-test.false c.as_slice-text-items.ensures (spelled_texts _)

pub returns-clause-spells : goal.returns-clause-spells
returns-clause-spells c =
    texts_spelled_at _ _ _ c.as_slice-text-items.ensures c.loop-text-test.false (let e = c.len.ensures.value in let b = c.len.ensures.bound in omega arith) c.loop-text.invariant.spelled
