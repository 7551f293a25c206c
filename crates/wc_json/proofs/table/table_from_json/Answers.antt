use Rattle.std.proofs.Common.{subst}
use Rattle.wc_value.specs.Refusals.{IsRefused}
use Rattle.wc_value.proofs.Told.{no_repeat}
use Rattle.wc_json.proofs.table.table_from_json.Goals as goal

pub unreachable-requires : goal.unreachable-requires
unreachable-requires c =
    no_repeat c.in_ok-rows.rows c.in-Err-Twice.field-0-0 (subst (IsRefused c.in_ok-rows.rows) c.in-Err-Twice.field-0-is c.in-Err-Twice.ensures.err) c.in_ok-rows.ensures.distinct
