use Rattle.wc_lexer.proofs.Cutting.{cut_of}
use Rattle.wc_lexer.proofs.Whole.{whole_of}
use Rattle.wc_lexer.proofs.lexer.tokens.Goals as goal

pub returns-clause-cuts : goal.returns-clause-cuts
returns-clause-cuts c = cut_of c.args.text.now c.cut.result c.cut.ensures

pub returns-clause-only : goal.returns-clause-only
returns-clause-only c = whole_of c.args.text.now c.cut.result c.cut.ensures
