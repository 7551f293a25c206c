use Rattle.std.proofs.Common.{◌≡◌, drop, None}
use Rattle.wc_world.specs.Drafts.{least_from}
use Rattle.wc_world.proofs.Unsettled.{WasLookedAt}
use Rattle.wc_world.proofs.draft.Draft.least_touched.Given as goal

abbrev pub invariant-loop-pid : goal.invariant-loop-pid
invariant-loop-pid l = record {
  least : least_from l.self.graph.links l.self.records.0 l.least (drop l.pid-index l.self.touched.items)
      ≡ least_from l.self.graph.links l.self.records.0 None l.self.touched.items;
  last : WasLookedAt l.self.graph.links l.self.records.0 l.least l.last;
}
