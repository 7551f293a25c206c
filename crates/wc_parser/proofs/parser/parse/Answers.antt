use Rattle.wc_parser.proofs.Texts.{text_meets}
use Rattle.wc_parser.proofs.Writable.{told_writable}
use Rattle.wc_parser.proofs.parser.parse.Goals as goal

pub returns-clause-only : goal.returns-clause-only
returns-clause-only c = text_meets c.args.text.now c.parse_text.result c.parse_text.ensures

pub returns-clause-writable : goal.returns-clause-writable
returns-clause-writable c = told_writable c.args.text.now c.parse_text.result c.parse_text.ensures
