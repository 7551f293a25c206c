use Rattle.wc_plan.proofs.Spared.{spared}
use Rattle.wc_plan.proofs.plans.plan_expansion.Goals as goal

pub returns-in_err-reply_to_expand-clause-spared : goal.returns-in_err-reply_to_expand-clause-spared
returns-in_err-reply_to_expand-clause-spared g c =
    spared (g.R.Shelf.contents c.args.shelf.now) c.args.file.now c.args.spec.now c.in_ok-read.read _ _ _ c.in_ok-read.ensures.read c.read_from.ensures.named c.reply_to_expand.ensures.asked

pub returns-clause-spared : goal.returns-clause-spared
returns-clause-spared g c =
    spared (g.R.Shelf.contents c.args.shelf.now) c.args.file.now c.args.spec.now c.in_ok-read.read _ _ _ c.in_ok-read.ensures.read c.read_from.ensures.named c.reply_to_expand.ensures.asked
