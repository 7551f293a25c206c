use Rattle.std.proofs.Common.{◌≡◌, List, ℕ, ◌∷◌, ap, sym, ◌∙◌, arith, rules}
use Rattle.std.specs.Int.{w64, to_be_bytes, cast_unsigned}
use Rattle.std.proofs.lemmas.Grind.{common_steps}
use Rattle.wc_value.proofs.Spelled.{spelled_int}
use Rattle.wc_keys.proofs.Added.{adds_tagged}
use Rattle.wc_keys.proofs.hashing.put_int.Goals as goal

pub returns : goal.returns
returns c =
    let bytes : c.to_be_bytes.result ≡ to_be_bytes w64 (cast_unsigned w64 c.args.number) = first_of (search rules, grind (arith, common_steps)) in
    adds_tagged _ _ _ 1 c.to_be_bytes.result _ c.put_byte.ensures c.put.ensures (spelled_int c.args.number ∙ ap (λ (l : List ℕ). 1 ∷ l) (sym bytes))
