use Rattle.std.proofs.Common.{◌≡◌}
use Rattle.wc_io.specs.Events.{asked_names, pieces, opened, KeepsAnswers}
use Rattle.wc_io.proofs.host.read_rest.Given as goal

abbrev pub invariant-loop : goal.invariant-loop
invariant-loop g l = record {
  content : pieces l.log.events ≡ l.content;
  opened : opened l.log.events ≡ opened l.fn.log.events;
  keeps : KeepsAnswers l.fn.log.events l.log.events;
  asked : asked_names l.log.events ≡ asked_names l.fn.log.events;
}
