use Rattle.std.proofs.Common.{sym, subst, ◌∙◌}
use Rattle.std.proofs.lemmas.Bool.{ne_eqb}
use Rattle.wc_lexer.specs.Tokens.{Gives}
use Rattle.wc_lexer.proofs.Places.{token_is, sign_begun}
use Rattle.wc_lexer.proofs.lexer.token_at.Goals as goal

pub returns-else-first-eq34-clause-value : goal.returns-else-first-eq34-clause-value
returns-else-first-eq34-clause-value c =
    subst (Gives c.sign_at.result) (sym (token_is c.args.bytes.now c.args.at c.requires.within
    ∙ sign_begun c.args.at _ _ (sym c.begins_name.ensures ∙ c.if-begins_name.false) (sym c.is_ascii_digit.ensures.value ∙ c.if-is_ascii_digit.false) (ne_eqb _ 34 c.if-first-eq34.false)))
    c.sign_at.ensures.value
