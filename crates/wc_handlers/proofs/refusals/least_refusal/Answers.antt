use Rattle.std.proofs.Common.{codes, None}
use Rattle.toml.specs.View.{table_view}
use Rattle.wc_handlers.specs.declared.keys.Place.TheVariants.{Top}
use Rattle.wc_handlers.specs.Refusals.{member_refusals, missing, list_refusals, handlers_in}
use Rattle.wc_handlers.specs.Seen.{seen}
use Rattle.wc_handlers.proofs.Least.{least-at_last}
use Rattle.wc_handlers.proofs.refusals.least_refusal.Goals as goal

pub returns : goal.returns
returns c =
    let ms = table_view c.args.table.now in
    least-at_last None (seen c.in_ok-known.known) (seen c.in_ok-named.named) (seen c.in_ok-tried.tried) (member_refusals Top ms)
    (missing Top (codes "name") ms) (missing Top (codes "of") ms) (list_refusals (handlers_in ms)) c.with_handlers.result
    c.in_ok-known.ensures c.in_ok-named.ensures c.in_ok-tried.ensures c.with_handlers.ensures
