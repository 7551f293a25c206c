use Rattle.std.proofs.Common.{◌≡◌, drop}
use Rattle.wc_report.specs.Shows.{is_call_to, source_of}
use Rattle.wc_report.proofs.show.caller_of.Given as goal

abbrev pub invariant-loop-link : goal.invariant-loop-link
invariant-loop-link l = source_of (is_call_to l.pid) (drop l.link-index l.links) ≡ source_of (is_call_to l.pid) l.links
