use Rattle.std.proofs.Common.{sym, ap, ◌∙◌}
use Rattle.wc_keys.specs.Keys.{digest_from}
use Rattle.wc_keys.proofs.OneEntry.{entry_taken, nothing_taken}
use Rattle.wc_keys.proofs.calculations.unseal.Goals as goal

pub returns-in-Some-clause-entries : goal.returns-in-Some-clause-entries
returns-in-Some-clause-entries c =
    let graph = c.args.graph.now in
    entry_taken (digest_from graph.nodes graph.links c.args.libraries.now c.args.records.now.0) c.args.pid c.args.seals.now.0 c.in-Some.seal c.take.new.self.0
    (sym c.entry_of.ensures ∙ c.in-Some.is) (ap (λ p. p.0) c.take.ensures) c.requires

pub returns-in-None-clause-entries : goal.returns-in-None-clause-entries
returns-in-None-clause-entries c =
    let graph = c.args.graph.now in
    nothing_taken (digest_from graph.nodes graph.links c.args.libraries.now c.args.records.now.0) c.args.pid c.args.seals.now.0 (sym c.entry_of.ensures ∙ c.in-None.is) c.requires
