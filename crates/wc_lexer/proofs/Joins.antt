-- What stands in front of what follows.
use Rattle.std.proofs.Common.{◌≡◌, List, ◌++◌, Result, Ok, Err, refl, sym, ap, append_assoc}
use Rattle.wc_lexer.specs.declared.error.LexError.{LexError}
use Rattle.wc_lexer.specs.Tokens.{joined}

pub joined_more : {X : Type 0} (front more : List X) (r : Result (List X) LexError) → joined front (joined more r) ≡ joined (front ++ more) r
joined_more front more (Ok xs) = ap (λ l. Ok l) (sym (append_assoc front more xs))
joined_more front more (Err e) = refl
