use Rattle.std.proofs.Common.{rules, ◌∙◌}
use Rattle.wc_keys.proofs.LinkMaps.{link_put}
use Rattle.wc_keys.proofs.links.put_link.Goals as goal

pub returns-in_ok-insert : goal.returns-in_ok-insert
returns-in_ok-insert c =
    link_put c.args.nodes.now c.args.pid c.args.inputs.now c.insert.new.self c.in_ok-port.port c.args.link (search rules)
    c.in_ok-insert.ensures.entries (c.in_ok-port.ensures.items ∙ c.bytes.ensures.value)
