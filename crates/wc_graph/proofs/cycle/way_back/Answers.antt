use Rattle.std.proofs.Common.{◌<◌, length, inr, ap, ◌∙◌, sym, subst, arith}
use Rattle.std.proofs.lemmas.List.{length_push}
use Rattle.wc_graph.specs.Near.{Near}
use Rattle.wc_graph.specs.Flood.{node_at, by_at}
use Rattle.wc_graph.proofs.Settling.{LeadsOn, leads_on_more}
use Rattle.wc_graph.proofs.cycle.way_back.Goals as goal

pub loop-at-preserved : goal.loop-at-preserved
loop-at-preserved c =
    let l = c.loop-at in
    let trail = c.args.trail.now in
    let pos : 0 < l.at = c.loop-at-test.true in
    let low : by_at trail l.at < l.at = c.requires.linked l.at pos l.invariant.within in
    let in' : l.at < length trail = l.invariant.within in
    let more = ap length c.in_ok-push.ensures.ok ∙ length_push l.ids (node_at trail l.at) in
    record {
      within = omega arith;
      some = inr (omega arith);
      leads = λ backward links.
          subst (LeadsOn (λ from to. Near backward to from) (node_at trail c.args.from) (node_at trail (by_at trail l.at))) (sym c.in_ok-push.ensures.ok)
          (leads_on_more (λ from to. Near backward to from) (node_at trail c.args.from) (node_at trail l.at) (node_at trail (by_at trail l.at)) l.ids
          (l.invariant.leads backward links) (links l.at pos l.invariant.within));
    }
