use Rattle.std.proofs.Common.{◌≡◌, ◌+◌, ◌++◌, drop}
use Rattle.wc_machine.specs.Submissions.{links_from}
use Rattle.wc_core.proofs.submissions.put_links.Given as goal

abbrev pub invariant-loop-port : goal.invariant-loop-port
invariant-loop-port l = record {
  number : l.source ≡ l.fn.first + l.port-index;
  links : l.changes ++ links_from l.link l.source l.pid (drop l.port-index l.port-items) ≡ l.fn.changes ++ links_from l.link l.first l.pid l.port-items;
}
