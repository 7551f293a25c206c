use Rattle.wc_world.specs.Keys.{digest_from}
use Rattle.wc_world.proofs.Making.{made_all, all_made, none_made}
use Rattle.wc_world.proofs.effects.put_link.Goals as goal

pub put_link_sealed-requires-clause-sealed : goal.put_link_sealed-requires-clause-sealed
put_link_sealed-requires-clause-sealed c =
    let graph = c.args.graph.now in
    made_all c.args.digested (digest_from graph.nodes graph.links c.args.libraries.now c.args.records.now.0) c.args.seals.now.0 c.if-digested.true c.requires.sealed

pub returns-then-digested-clause-sealed : goal.returns-then-digested-clause-sealed
returns-then-digested-clause-sealed c =
    let graph = c.put_link_sealed.new.graph in
    all_made c.args.digested (digest_from graph.nodes graph.links c.args.libraries.now c.args.records.now.0) c.put_link_sealed.new.seals.0 c.if-digested.true c.put_link_sealed.ensures.sealed

pub returns-else-digested-clause-sealed : goal.returns-else-digested-clause-sealed
returns-else-digested-clause-sealed c =
    let graph = c.push_link.new.self in
    none_made c.args.digested (digest_from graph.nodes graph.links c.args.libraries.now c.args.records.now.0) c.args.seals.now.0 c.if-digested.false
