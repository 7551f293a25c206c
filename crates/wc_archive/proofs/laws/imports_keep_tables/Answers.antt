use Rattle.wc_archive.proofs.Tables.{imports_keep_tables}
use Rattle.wc_archive.proofs.laws.imports_keep_tables.Goals as goal

pub returns : goal.returns
returns c = imports_keep_tables
