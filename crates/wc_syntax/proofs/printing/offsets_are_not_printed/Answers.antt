use Rattle.wc_syntax.proofs.Bared.{printed_bare}
use Rattle.wc_syntax.proofs.printing.offsets_are_not_printed.Goals as goal

pub returns : goal.returns
returns c = printed_bare
