use Rattle.std.proofs.Common.{◌≡◌, ◌++◌, map, drop}
use Rattle.wc_changes.specs.Advances.{return_link}
use Rattle.wc_changes.proofs.end.put_links.Given as goal

abbrev pub invariant-loop-label : goal.invariant-loop-label
invariant-loop-label l = l.changes ++ map (return_link l.pid) (drop l.label-index l.label-items) ≡ l.fn.changes ++ map (return_link l.pid) l.label-items
