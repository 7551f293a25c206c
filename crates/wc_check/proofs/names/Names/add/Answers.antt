use Rattle.std.proofs.Common.{◌∙◌, ap, ◌∷◌, ◌++◌, []}
use Rattle.std.specs.Prelude.{not}
use Rattle.wc_syntax.specs.Findings.{is_among}
use Rattle.wc_check.proofs.Named.{names_of, found, put_last}
use Rattle.wc_check.proofs.names.Names.add.Goals as goal

pub returns-clause-added : goal.returns-clause-added
returns-clause-added c =
    c.in_ok-insert.ensures.added
    ∙ ap not (found c.in_ok-name.name.items c.self.inside.set.keys ∙ (λ i. is_among ((c.in_ok-name.ensures.items ∙ c.as_bytes.ensures.value) i) (c.self.view_is i)))

pub returns-clause-names : goal.returns-clause-names
returns-clause-names c = λ m.
    ap (λ ks. is_among m (names_of ks)) c.in_ok-insert.ensures.keys
    ∙ put_last c.in_ok-name.name c.self.inside.set.keys m
    ∙ (λ i. is_among m (c.self.view_is i ++ (c.in_ok-name.ensures.items ∙ c.as_bytes.ensures.value) i ∷ []))
