use Rattle.wc_plan.proofs.Means.{result_bare}
use Rattle.wc_plan.proofs.commands.dry.reply_for_library.Goals as goal

pub returns-clause-owes : goal.returns-clause-owes
returns-clause-owes o c =
    result_bare _ c.args.trial.now c.library.result.now c.args.library.now c.reply_for_name.result c.library.ensures.same c.reply_for_name.ensures.owes
