use Rattle.wc_parser.proofs.ReadBack.{definitions_print_apart}
use Rattle.wc_parser.proofs.laws.definitions_print_apart.Goals as goal

pub returns : goal.returns
returns c = definitions_print_apart
