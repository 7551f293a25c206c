use Rattle.std.proofs.Common.{sym, ap, ◌∙◌, ◌++◌, subst}
use Rattle.std.specs.Str.{IsUtf8}
use Rattle.wc_lexer.proofs.Utf8.{name_utf8}
use Rattle.wc_lexer.proofs.lexer.named.Goals as goal

pub text-requires : goal.text-requires
text-requires c = subst IsUtf8 (sym (c.in_ok-extend-in-None.ensures.ok ∙ ap (λ l. l ++ c.args.letters.now) c.new-copy.ensures)) (name_utf8 _ c.requires)
