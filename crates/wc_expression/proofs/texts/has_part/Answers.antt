use Rattle.wc_expression.proofs.Parts.{contains_is}
use Rattle.wc_expression.proofs.texts.has_part.Goals as goal

pub returns : goal.returns
returns c = contains_is c.contains.result c.args.part.now c.args.text.now c.contains.ensures.cases
