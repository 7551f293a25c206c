use Rattle.std.proofs.Common.{arith, rules}
use Rattle.wc_archive_file.proofs.Forms.{few_read, too_many}
use Rattle.wc_archive_file.proofs.file.few_nodes.Goals as goal

pub returns-then-len-le-MOST_NODES : goal.returns-then-len-le-MOST_NODES
returns-then-len-le-MOST_NODES c = few_read _ _ (let n = c.if-len-le-MOST_NODES.true in let e = c.len.ensures in search rules) c.nodes_of.ensures

pub returns-else-len-le-MOST_NODES : goal.returns-else-len-le-MOST_NODES
returns-else-len-le-MOST_NODES c = too_many _ (λ few. let n = c.if-len-le-MOST_NODES.false in let e = c.len.ensures in absurd (omega arith))
