use Rattle.std.proofs.Common.{◌≡◌, sym, subst}
use Rattle.wc_world.specs.World.{empty}
use Rattle.wc_world.specs.Accepted.{IsReached, nothing}
use Rattle.wc_world.proofs.played.Played.new.Goals as goal

pub invariant_of-result : goal.invariant_of-result
invariant_of-result c =
    let e : empty ≡ record { nodes = c.new.result.nodes; links = c.new.result.links; records = c.new-2.result.0; libraries = c.new-3.result.0; batches = 0 } =
    λ i. record { nodes = sym c.new.ensures.nodes i; links = sym c.new.ensures.links i; records = sym c.new-2.ensures i; libraries = sym c.new-3.ensures i; batches = 0 } in
    subst IsReached e nothing
