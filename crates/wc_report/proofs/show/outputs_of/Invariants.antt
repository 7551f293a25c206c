use Rattle.std.proofs.Common.{◌≡◌, ℕ, [], drop}
use Rattle.wc_graph.specs.declared.link.Link.{Link}
use Rattle.wc_world.specs.Records.{is_output_of}
use Rattle.wc_report.specs.Shows.{ends_after}
use Rattle.wc_report.proofs.show.outputs_of.Given as goal

abbrev pub invariant-loop-link : goal.invariant-loop-link
invariant-loop-link l = ends_after (is_output_of l.pid) (λ (k : Link). k.target) (drop l.link-index l.links) l.named ≡ ends_after (is_output_of l.pid) (λ (k : Link). k.target) l.links []
