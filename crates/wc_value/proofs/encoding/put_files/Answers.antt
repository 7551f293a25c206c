use Rattle.std.proofs.Common.{arith}
use Rattle.wc_value.specs.Spelling.{file}
use Rattle.wc_value.proofs.Respelled.{folder_spelled_at}
use Rattle.wc_value.proofs.Spelled.{spelled_folder, finished}
use Rattle.wc_value.proofs.encoding.put_files.Goals as goal

pub returns-clause-written : goal.returns-clause-written
returns-clause-written c = finished file 6 _ _ _ _ _ _ c.loop-name.invariant.out c.loop-name-test.false c.as_slice-name-items.ensures.value (spelled_folder _)

pub returns-clause-spells : goal.returns-clause-spells
returns-clause-spells c =
    folder_spelled_at _ _ _ c.as_slice-name-items.ensures.value c.loop-name-test.false (let e = c.len.ensures.value in let b = c.len.ensures.bound in omega arith) c.as_slice-name-items.ensures.ascends c.loop-name.invariant.spelled
