use Rattle.wc_value.proofs.Utf8.{utf8_of}
use Rattle.wc_value.proofs.text.Text.bytes.Goals as goal

pub returns-clause-utf8 : goal.returns-clause-utf8
returns-clause-utf8 c = utf8_of _ _ c.self.inside.inner.ok c.self.view_is
