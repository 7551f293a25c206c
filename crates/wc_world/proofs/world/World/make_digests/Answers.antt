use Rattle.wc_world.specs.Applying.{world_of}
use Rattle.wc_world.proofs.Ascents.{reached_ascends}
use Rattle.wc_world.proofs.world.World.make_digests.Goals as goal

pub seals_of-requires : goal.seals_of-requires
seals_of-requires c =
    let i = c.self.inside in
    reached_ascends (world_of i.graph i.records i.libraries i.batches) c.self.invariant.0
