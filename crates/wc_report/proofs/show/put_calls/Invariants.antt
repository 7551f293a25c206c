use Rattle.std.proofs.Common.{◌≡◌, ◌++◌, drop}
use Rattle.std.specs.Prelude.{string_bytes}
use Rattle.wc_report.specs.Shows.{called_lines}
use Rattle.wc_report.proofs.show.put_calls.Given as goal

abbrev pub invariant-loop-link : goal.invariant-loop-link
invariant-loop-link l = string_bytes l.out ++ called_lines l.pid (drop l.link-index l.links) ≡ string_bytes l.fn.out ++ called_lines l.pid l.links
