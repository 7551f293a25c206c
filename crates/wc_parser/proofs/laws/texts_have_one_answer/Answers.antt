use Rattle.wc_parser.proofs.Texts.{one_text_answer}
use Rattle.wc_parser.proofs.laws.texts_have_one_answer.Goals as goal

pub returns : goal.returns
returns c = one_text_answer
