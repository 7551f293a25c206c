use Rattle.std.proofs.Common.{◌+◌, refl}
use Rattle.std.proofs.lemmas.Map.Views.{exact_unsigned_eq}
use Rattle.std.proofs.lemmas.Bool.{eqb-false}
use Rattle.wc_graph.proofs.Settling.{settles}
use Rattle.wc_graph.proofs.cycle.settle.Goals as goal

pub returns-in-Some-clause-some : goal.returns-in-Some-clause-some
returns-in-Some-clause-some c =
    settles c.args.table.now c.args.node (c.args.node + 1) c.args.colours.now c.flood.new.colours c.in-Some._trail.items c.requires refl
    (rw c.in-Some.is at c.in_ok-_trail.ensures.found)
    _ (exact_unsigned_eq _ _) (eqb-false _ _)
