use Rattle.wc_lexer.proofs.Contents.{content_utf8, between_quotes}
use Rattle.wc_lexer.proofs.lexer.quoted_at.Goals as goal

pub text-requires : goal.text-requires
text-requires c =
    content_utf8 _ _ _ (between_quotes c.args.bytes.now c.args.at c.in-Some.end c.requires.utf8 c.requires.within c.in-Some.ensures.within.1 c.in-Some.ensures.within.0 c.requires.quote c.in-Some.ensures.quote) c.in_ok-content.ensures
