use Rattle.std.proofs.Common.{◌≡◌, ◌<◌, length, ◌∙◌, sym, arith}
use Rattle.wc_graph.specs.declared.flood.Found.{Found}
use Rattle.wc_graph.specs.Flood.{node_at}
use Rattle.wc_graph.proofs.Restoring.{entry_is, either_restored, all_restored}
use Rattle.wc_graph.proofs.flood.restore.Goals as goal

abbrev none : Found
none = record { node = 0; by = 0 }

pub loop-found-preserved : goal.loop-found-preserved
loop-found-preserved c = λ before size all either node.
    let i = c.loop-found.found-index in
    let trail = c.args.trail.now in
    let lt = c.loop-found-test.true in
    let len : length c.loop-found.colours ≡ length c.args.colours.now = c.loop-found.auto.colours in
    let at_in : node_at trail i < length c.args.colours.now = c.requires i none lt in
    either_restored c.loop-found.colours before trail i _ c.args.old (entry_is trail i none lt) (omega arith) (all i none lt) node
    (c.loop-found.invariant before size all either node)

pub returns : goal.returns
returns c = λ before size all either.
    let len : length c.loop-found.colours ≡ length c.args.colours.now = c.loop-found.auto.colours in
    all_restored c.loop-found.colours before c.args.trail.now c.loop-found.found-index (len ∙ sym size) c.loop-found-test.false
    (c.loop-found.invariant before size all either)
