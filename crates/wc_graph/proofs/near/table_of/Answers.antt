use Rattle.std.proofs.Common.{◌≡◌, ◌+◌, length, ap, ◌∙◌}
use Rattle.wc_graph.specs.Near.{near_of}
use Rattle.wc_graph.proofs.Nearing.{table_from_near}
use Rattle.wc_graph.proofs.Linked.{ends_within}
use Rattle.wc_graph.proofs.near.table_of.Goals as goal

pub returns-clause-table : goal.returns-clause-table
returns-clause-table c = λ types choose.
    let g = c.args.graph.now in
    let links_is : c.as_slice.result.now ≡ g.links = c.as_slice.ensures ∙ ap (λ p. p.0) c.links.ensures.value in
    let count_is : c.len-greatest.result ≡ length g.nodes = c.len-greatest.ensures.value ∙ ap (λ p. length p.0) c.nodes.ensures.value in
    table_from_near c.args.choice c.args.way types g.links (length g.nodes) c.in_ok-near.field-0.items choose
    (ends_within g.nodes g.links c.links.ensures.correct)
    (c.in_ok-near.ensures.size ∙ ap (λ n. n + 1) count_is)
    (λ node. c.in_ok-near.ensures.lists node ∙ ap (λ ls. near_of c.args.choice c.args.way ls node) links_is)
