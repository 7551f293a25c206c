use Rattle.std.proofs.Common.{refl, sym}
use Rattle.wc_semantics.proofs.Rows.{kills_under, table_under}
use Rattle.wc_semantics.proofs.laws.rows_of_a_label.Goals as goal

pub returns-clause-table : goal.returns-clause-table
returns-clause-table c l by_path rows = sym (table_under l by_path rows)

pub returns-clause-same : goal.returns-clause-same
returns-clause-same c l rows = refl

pub returns-clause-kills : goal.returns-clause-kills
returns-clause-kills c l rows = sym (kills_under l rows)
