use Rattle.wc_semantics.proofs.Labels.{labels_differ}
use Rattle.wc_semantics.proofs.laws.labels_differ.Goals as goal

pub returns : goal.returns
returns c = labels_differ
