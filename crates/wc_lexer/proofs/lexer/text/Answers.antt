use Rattle.std.proofs.Common.{refl}
use Rattle.wc_lexer.proofs.Utf8.{is_text}
use Rattle.wc_lexer.proofs.lexer.text.Goals as goal

pub unreachable-requires : goal.unreachable-requires
unreachable-requires c = is_text c.args.bytes c.args.bytes c.requires refl c.in-None.ensures
