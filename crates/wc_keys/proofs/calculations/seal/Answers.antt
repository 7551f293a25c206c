use Rattle.std.proofs.Common.{sym, ap, ◌∙◌}
use Rattle.wc_keys.specs.Keys.{digest_from}
use Rattle.wc_keys.proofs.OneEntry.{entry_put, nothing_put, place_left}
use Rattle.wc_keys.proofs.calculations.seal.Goals as goal

pub put-requires : goal.put-requires
put-requires c =
    let graph = c.args.graph.now in
    place_left graph.nodes graph.links c.args.libraries.now c.args.records.now.0 c.args.pid c.args.seals.now.1 c.in-Some.seal c.args.seals.now.0
    (sym c.entry_of.ensures ∙ c.in-Some.is) c.requires.others c.requires.places

pub returns-in-Some-clause-entries : goal.returns-in-Some-clause-entries
returns-in-Some-clause-entries c =
    let graph = c.args.graph.now in
    entry_put (digest_from graph.nodes graph.links c.args.libraries.now c.args.records.now.0) c.args.pid c.args.seals.now.0 c.in-Some.seal c.put.new.self.0
    (sym c.entry_of.ensures ∙ c.in-Some.is) (ap (λ p. p.0) c.put.ensures) c.requires.others

pub returns-in-None-clause-entries : goal.returns-in-None-clause-entries
returns-in-None-clause-entries c =
    let graph = c.args.graph.now in
    nothing_put (digest_from graph.nodes graph.links c.args.libraries.now c.args.records.now.0) c.args.pid c.args.seals.now.0 (sym c.entry_of.ensures ∙ c.in-None.is) c.requires.others
