use Rattle.std.proofs.Common.{◌≡◌, ◌<◌, length, get_or, ◌∙◌, arith}
use Rattle.std.proofs.lemmas.List.{get_or_read_under}
use Rattle.wc_matches.specs.Joins.{OpenSteps}
use Rattle.wc_matches.proofs.Finding.{closed_more}
use Rattle.wc_matches.proofs.search.close.Goals as goal

pub loop-done-preserved : goal.loop-done-preserved
loop-done-preserved c =
    let l = c.loop-done in
    let node = c.index-node.result.now in
    let count : c.len.result ≡ length l.found.items = c.len.ensures ∙ l.found.ok.0 in
    let lt : l.done < c.len.result = c.loop-done-test.true in
    let read : node ≡ get_or l.found.items l.done 0 = get_or_read_under l.found.items l.done c.len.result node 0 c.index-node.ensures lt count in
    let f = c.in_ok-spread.ensures in
    record {
      size = f.size ∙ l.invariant.size;
      marked = f.marked;
      closed = closed_more (OpenSteps c.args.forward c.args.types.now c.args.barred.now c.args.graph.now.links) l.marks c.spread.new.marks c.args.found.now.items l.found.items c.spread.new.found.items
          l.done node l.invariant.closed (omega (arith, lt, count)) read f;
    }
