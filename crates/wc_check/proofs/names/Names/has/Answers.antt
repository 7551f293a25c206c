use Rattle.std.proofs.Common.{◌∙◌}
use Rattle.wc_syntax.specs.Findings.{is_among}
use Rattle.wc_check.proofs.Named.{found}
use Rattle.wc_check.proofs.names.Names.has.Goals as goal

pub returns : goal.returns
returns c = c.contains.ensures ∙ found _ c.self.inside.set.keys ∙ (λ i. is_among (c.as_bytes.ensures.value i) (c.self.view_is i))
