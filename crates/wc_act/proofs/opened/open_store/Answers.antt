use Rattle.std.proofs.Common.{Option, subst}
use Rattle.wc_store.specs.Sights.{OfImages}
use Rattle.wc_store.specs.Stores.{IsLoadedOf}
use Rattle.wc_store.specs.declared.store.Store.{Store}
use Rattle.wc_act.proofs.Doing.{opened_none, opened_refused}
use Rattle.wc_act.proofs.opened.open_store.Goals as goal

pub returns-in_ok-refused-in-Err-clause-opens : goal.returns-in_ok-refused-in-Err-clause-opens
returns-in_ok-refused-in-Err-clause-opens g c =
    opened_refused g.D.Disk c.args.one.now c.args.two.now c.load.new.one c.load.new.two c.in-Err.error c.in_ok-refused-in-Err.field-0 c.in-Err.ensures.refused
    c.load.ensures.seen.0 c.load.ensures.seen.1 c.in_ok-refused-in-Err.ensures.reply

pub returns-in_ok-refuse-in-Ok-None-clause-opens : goal.returns-in_ok-refuse-in-Ok-None-clause-opens
returns-in_ok-refuse-in-Ok-None-clause-opens g c =
    opened_none g.D.Disk c.args.one.now c.args.two.now c.load.new.one c.load.new.two c.in_ok-refuse-in-Ok-None.field-0
    (subst (λ (o : Option Store). OfImages g.D.Disk c.args.one.now c.args.two.now (IsLoadedOf o)) c.in-Ok-None.field-0-is c.in-Ok-None.ensures.images)
    c.load.ensures.seen.0 c.load.ensures.seen.1 c.in_ok-refuse-in-Ok-None.ensures
