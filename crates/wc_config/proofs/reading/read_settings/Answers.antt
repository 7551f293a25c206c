use Rattle.std.proofs.Common.{sym, ap, ◌∙◌}
use Rattle.toml.specs.View.{table_view}
use Rattle.wc_config.specs.Seen.{seen}
use Rattle.wc_config.proofs.Told.{told-refuses}
use Rattle.wc_config.proofs.reading.read_settings.Goals as goal

pub returns-in-Some-clause-refused : goal.returns-in-Some-clause-refused
returns-in-Some-clause-refused c =
    let read = c.in-Ok.ensures.ok in
    rw c.told.ensures
    (told-refuses c.args.bytes.now (table_view c.in-Ok.table) (c.in-Some.refused.kind, c.in-Some.refused.key) read.0 read.1
    (sym c.in_ok-refused.ensures ∙ ap seen c.in-Some.is))
