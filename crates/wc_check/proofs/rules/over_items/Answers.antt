use Rattle.std.proofs.Common.{ap, sym}
use Rattle.wc_check.specs.Least.{least_after}
use Rattle.wc_check.proofs.Ruled.{no_more}
use Rattle.wc_check.proofs.rules.over_items.Goals as goal

pub returns-else-places-gt-MOST_ITEMS : goal.returns-else-places-gt-MOST_ITEMS
returns-else-places-gt-MOST_ITEMS c = ap (least_after c.args.best.now) (sym (no_more 512 c.args.places.now c.if-places-gt-MOST_ITEMS.false))
