use Rattle.wc_record.proofs.Contexts.{got}
use Rattle.wc_record.proofs.put.pair_of.Goals as goal

pub returns : goal.returns
returns c = λ d. got _ _ _ c.args.context.now c.args.at d c.get.ensures c.unwrap.ensures
