use Rattle.std.proofs.Common.{ℕ, List, sym, subst}
use Rattle.wc_world.specs.Applying.{world_of}
use Rattle.wc_world.specs.Drafts.{AreSettledBut}
use Rattle.wc_world.proofs.Ascents.{reached_ascends}
use Rattle.wc_world.proofs.Awaiting.{reached_awaits}
use Rattle.wc_world.proofs.Taken.{reached_settled}
use Rattle.wc_world.proofs.Unsettled.{settled_first}
use Rattle.wc_world.proofs.played.Played.begin.Goals as goal

pub returns-clause-ascending : goal.returns-clause-ascending
returns-clause-ascending c =
    let i = c.self.inside in
    reached_ascends (world_of i.graph i.records i.libraries i.batches) c.self.invariant

pub returns-clause-awaits : goal.returns-clause-awaits
returns-clause-awaits c =
    let i = c.self.inside in
    reached_awaits (world_of i.graph i.records i.libraries i.batches) c.self.invariant

pub returns-clause-settled : goal.returns-clause-settled
returns-clause-settled c =
    let i = c.self.inside in
    let w = world_of i.graph i.records i.libraries i.batches in
    subst (λ (ts : List ℕ). AreSettledBut ts i.graph.links i.records.0) (sym c.new.ensures.items) (settled_first i.graph.links i.records.0 (reached_settled w c.self.invariant))
