use Rattle.wc_parser.proofs.ReadBack.{reads_back}
use Rattle.wc_parser.proofs.laws.printed_texts_read_back.Goals as goal

pub returns : goal.returns
returns c = reads_back
