use Rattle.std.proofs.Common.{List, ℕ, ◌∷◌, ap, sym, ◌∙◌}
use Rattle.wc_value.specs.Spelling.{text}
use Rattle.wc_value.proofs.Spelled.{spelled_text}
use Rattle.wc_keys.proofs.Added.{adds_tagged}
use Rattle.wc_keys.proofs.hashing.put_text_value.Goals as goal

pub returns : goal.returns
returns c =
    adds_tagged _ _ _ 3 (text c.bytes.result.now) _ c.put_byte.ensures c.put_text.ensures
    (spelled_text c.args.text.now ∙ ap (λ (t : List ℕ). 3 ∷ text t) (sym c.bytes.ensures.value))
