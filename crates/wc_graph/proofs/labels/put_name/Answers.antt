use Rattle.wc_graph.proofs.Labelling.{has_kept}
use Rattle.wc_graph.proofs.labels.put_name.Goals as goal

pub returns-clause-kept : goal.returns-clause-kept
returns-clause-kept c = λ l had. has_kept c.args.names.now c.insert.new.self c.in_ok-label.label l c.in_ok-insert.ensures.keys had
