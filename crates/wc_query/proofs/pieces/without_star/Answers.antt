use Rattle.wc_query.proofs.Cutting.{star_is}
use Rattle.wc_query.proofs.pieces.without_star.Goals as goal

pub returns : goal.returns
returns c = star_is c.args.text.now c.strip_suffix.result c.strip_suffix.ensures.cases
