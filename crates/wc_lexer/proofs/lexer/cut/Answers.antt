use Rattle.std.proofs.Common.{sym, ap, ◌∙◌, drop}
use Rattle.std.specs.Str.{is_utf8}
use Rattle.std.proofs.lemmas.Str.{IsUtf8-from_is_utf8}
use Rattle.wc_lexer.specs.Tokens.{joined, kept_at, tokens_from}
use Rattle.wc_lexer.proofs.Places.{tokens_ok, refused, handed}
use Rattle.wc_lexer.proofs.Joins.{joined_more}
use Rattle.wc_lexer.proofs.lexer.cut.Goals as goal

pub returns-in_err-token : goal.returns-in_err-token
returns-in_err-token c =
    let r = c.from_residual.ensures in
    handed _ _ _ r.0 r.1 (refused c.bytes-bytes.result.now c.loop-at.at c.loop-at.found _ _ c.loop-at-test.true c.in_err-token.ensures.value (c.loop-at.invariant.0 ∙ ap (tokens_from 0 0) c.bytes-bytes.ensures.value))

pub loop-at-preserved : goal.loop-at-preserved
loop-at-preserved c =
    let bs = c.bytes-bytes.result.now in
    let end = c.in_ok-token.end in (
      ap (λ l. joined l (tokens_from 0 end (drop end bs))) c.in_ok-found.ensures
          ∙ sym (joined_more c.loop-at.found (kept_at c.loop-at.at c.in_ok-token.token) (tokens_from 0 end (drop end bs)))
          ∙ ap (joined c.loop-at.found) (sym (tokens_ok bs c.loop-at.at end c.in_ok-token.token c.loop-at-test.true c.in_ok-token.ensures.value c.in_ok-token.ensures.within.0))
          ∙ c.loop-at.invariant.0,
      c.in_ok-token.ensures.within.1,
    )

pub piece_at-requires-clause-utf8 : goal.piece_at-requires-clause-utf8
piece_at-requires-clause-utf8 c = IsUtf8-from_is_utf8 _ (ap is_utf8 c.bytes-bytes.ensures.value ∙ c.bytes-bytes.ensures.utf8)
