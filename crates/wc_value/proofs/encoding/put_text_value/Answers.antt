use Rattle.std.proofs.Common.{◌∷◌, ◌∙◌, ap, sym}
use Rattle.wc_value.specs.Spelling.{text}
use Rattle.wc_value.proofs.Spelled.{spelled_text, tagged_written}
use Rattle.wc_value.proofs.encoding.put_text_value.Goals as goal

pub returns-clause-written : goal.returns-clause-written
returns-clause-written c =
    tagged_written 3 _ c.push.new.self _ (text c.bytes.result.now) _ c.put_text.result c.in_ok-push.ensures.ok c.put_text.ensures
    (spelled_text _ ∙ ap (λ t. 3 ∷ text t) (sym c.bytes.ensures.value))
