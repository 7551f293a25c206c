use Rattle.wc_drill.proofs.Rows.{memory_alone}
use Rattle.wc_drill.proofs.squares.square_table.Goals as goal

pub table_memory-requires : goal.table_memory-requires
table_memory-requires c = memory_alone c.in_ok-rows.rows c.in-Err.error c.in_ok-rows.ensures c.in-Err.ensures.err
