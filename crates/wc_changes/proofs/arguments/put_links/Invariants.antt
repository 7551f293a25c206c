use Rattle.std.proofs.Common.{◌≡◌, ◌+◌, ◌++◌, drop, length}
use Rattle.wc_changes.specs.Called.{data_of, links_of}
use Rattle.wc_changes.proofs.arguments.put_links.Given as goal

abbrev pub invariant-loop-port : goal.invariant-loop-port
invariant-loop-port l = record {
  number : l.next + length (data_of (drop l.port-index l.port-items)) ≡ l.first + length (data_of l.port-items);
  links : l.changes ++ links_of l.link l.next l.pid (drop l.port-index l.port-items) ≡ l.fn.changes ++ links_of l.link l.first l.pid l.port-items;
}
