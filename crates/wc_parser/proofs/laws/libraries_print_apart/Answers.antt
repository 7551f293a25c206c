use Rattle.wc_parser.proofs.ReadBack.{libraries_print_apart}
use Rattle.wc_parser.proofs.laws.libraries_print_apart.Goals as goal

pub returns : goal.returns
returns c = libraries_print_apart
