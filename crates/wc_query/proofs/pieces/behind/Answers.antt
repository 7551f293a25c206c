use Rattle.wc_query.proofs.Cutting.{behind_is}
use Rattle.wc_query.proofs.pieces.behind.Goals as goal

pub returns : goal.returns
returns c = behind_is c.args.beginning.now c.args.text.now c.strip_prefix.result c.strip_prefix.ensures.cases
