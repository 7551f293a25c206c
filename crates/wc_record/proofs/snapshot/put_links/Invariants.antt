use Rattle.std.proofs.Common.{drop, map}
use Rattle.wc_world.specs.declared.change.Change.TheVariants as change
use Rattle.wc_record.proofs.Remaining.{Leaves}
use Rattle.wc_record.proofs.snapshot.put_links.Given as goal

abbrev pub invariant-loop-link : goal.invariant-loop-link
invariant-loop-link l = Leaves l.fn.out l.out (map change.Link (drop l.link-index l.links)) (map change.Link l.links)
