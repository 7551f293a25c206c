use Rattle.std.specs.Char.{is_ascii_digit}
use Rattle.wc_lexer.proofs.Places.{run_passes}
use Rattle.wc_lexer.proofs.lexer.number_at.Goals as goal

pub number-requires : goal.number-requires
number-requires c = run_passes is_ascii_digit c.args.bytes.now c.args.at _ c.run_end-end.ensures.value
