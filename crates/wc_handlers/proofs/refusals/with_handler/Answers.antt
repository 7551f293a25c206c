use Rattle.std.proofs.Common.{codes}
use Rattle.toml.specs.View.{table_view}
use Rattle.wc_handlers.specs.declared.keys.Place.TheVariants.{Handler}
use Rattle.wc_handlers.specs.Refusals.{member_refusals, missing, remedy_refusals}
use Rattle.wc_handlers.specs.Seen.{seen}
use Rattle.wc_handlers.proofs.Least.{least-at_last}
use Rattle.wc_handlers.proofs.refusals.with_handler.Goals as goal

pub returns : goal.returns
returns c =
    let ms = table_view c.args.table.now in
    least-at_last (seen c.args.best) (seen c.in_ok-known.known) (seen c.in_ok-handled.handled) (seen c.in_ok-ranked.ranked) (member_refusals Handler ms)
    (missing Handler (codes "statuses") ms) (missing Handler (codes "priority") ms) (remedy_refusals ms) c.with_remedy.result
    c.in_ok-known.ensures c.in_ok-handled.ensures c.in_ok-ranked.ensures c.with_remedy.ensures
